use Rattle.std.proofs.Common.{take}
use Rattle.std.specs.List.{flat_map}
use Rattle.sc_report.specs.Entries.{log_text}
use Rattle.sc_report.specs.Outlets.{Writes}
use Rattle.sc_report.proofs.entries.put_logs.Given as goal

abbrev pub invariant-loop-log : goal.invariant-loop-log
invariant-loop-log g l = Writes g.K.Sink.taken g.K.Sink.faults l.initial.out l.out (flat_map log_text (take l.log-index l.logs))
