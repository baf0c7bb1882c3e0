use Rattle.std.proofs.Common.{take}
use Rattle.sc_report.specs.Entries.{entries_text}
use Rattle.sc_report.specs.Outlets.{Writes}
use Rattle.sc_report.proofs.entries.put_entries.Given as goal

abbrev pub invariant-loop-place : goal.invariant-loop-place
invariant-loop-place g l =
    Writes g.K.Sink.taken g.K.Sink.faults l.initial.out l.out (entries_text 1 (take l.place l.history.entries))
