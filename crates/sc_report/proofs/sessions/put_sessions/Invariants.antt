use Rattle.std.proofs.Common.{take}
use Rattle.std.specs.List.{flat_map}
use Rattle.sc_report.specs.Outlets.{Writes}
use Rattle.sc_report.specs.Report.{session_text}
use Rattle.sc_report.proofs.sessions.put_sessions.Given as goal

abbrev pub invariant-loop-place : goal.invariant-loop-place
invariant-loop-place g l =
    Writes g.K.Sink.taken g.K.Sink.faults l.initial.out l.out
    (flat_map (session_text l.host.image) (take l.place l.host.image.sessions))
