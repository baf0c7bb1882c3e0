use Rattle.std.proofs.Common.{take}
use Rattle.std.specs.List.{flat_map}
use Rattle.sc_report.specs.Outlets.{Writes}
use Rattle.sc_report.specs.Report.{datum_text}
use Rattle.sc_report.proofs.sessions.put_data.Given as goal

abbrev pub invariant-loop-datum : goal.invariant-loop-datum
invariant-loop-datum g l = Writes g.K.Sink.taken g.K.Sink.faults l.initial.out l.out (flat_map datum_text (take l.datum-index l.values))
