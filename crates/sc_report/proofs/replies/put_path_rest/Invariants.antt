use Rattle.std.proofs.Common.{take}
use Rattle.sc_report.specs.Entries.{path_rest}
use Rattle.sc_report.specs.Outlets.{Writes}
use Rattle.sc_report.proofs.replies.put_path_rest.Given as goal

abbrev pub invariant-loop-place : goal.invariant-loop-place
invariant-loop-place g l = Writes g.K.Sink.taken g.K.Sink.faults l.initial.out l.out (path_rest (take l.place-index l.places))
