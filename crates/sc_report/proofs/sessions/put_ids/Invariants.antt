use Rattle.std.proofs.Common.{take}
use Rattle.std.specs.List.{flat_map}
use Rattle.sc_report.specs.Outlets.{Writes}
use Rattle.sc_report.specs.Report.{state_text}
use Rattle.sc_report.proofs.sessions.put_ids.Given as goal

abbrev pub invariant-loop-state : goal.invariant-loop-state
invariant-loop-state g l =
    Writes g.K.Sink.taken g.K.Sink.faults l.initial.out l.out (flat_map (state_text (g.E.Engine.chart_of l.plan)) (take l.state-index l.states))
