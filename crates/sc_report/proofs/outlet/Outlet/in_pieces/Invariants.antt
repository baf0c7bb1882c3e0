use Rattle.std.proofs.Common.{◌≤◌, ◌-◌, length, take}
use Rattle.sc_report.specs.Outlets.{Puts, seen}
use Rattle.sc_report.proofs.outlet.Outlet.in_pieces.Given as goal

abbrev pub invariant-loop-at : goal.invariant-loop-at
invariant-loop-at g l =
    Puts (seen g.K.Sink.taken g.K.Sink.faults l.initial.self) (seen g.K.Sink.taken g.K.Sink.faults l.self) (take l.at l.bytes)
    × (l.at ≤ length l.bytes)

abbrev pub decreases-loop-at : goal.decreases-loop-at
decreases-loop-at g l = length l.bytes - l.at
