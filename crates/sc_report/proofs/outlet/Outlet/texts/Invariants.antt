use Rattle.std.proofs.Common.{map, take}
use Rattle.sc_report.specs.Outlets.{Puts, joined, seen}
use Rattle.sc_report.proofs.outlet.Outlet.texts.Given as goal

abbrev pub invariant-loop-text : goal.invariant-loop-text
invariant-loop-text g l =
    Puts (seen g.K.Sink.taken g.K.Sink.faults l.initial.self) (seen g.K.Sink.taken g.K.Sink.faults l.self)
    (joined (map (λ t. t.now) (take l.text-index l.texts)))
