use Rattle.sc_report.specs.Report.{state_text}
use Rattle.sc_report.proofs.OutletLemmas.{puts_each}
use Rattle.sc_report.proofs.sessions.put_ids.Goals as goal

pub loop-state-preserved : goal.loop-state-preserved
loop-state-preserved g c =
    puts_each (state_text (g.E.Engine.chart_of c.args.plan.now)) c.args.states.now c.loop-state.state-index _ c.loop-state-test.true
    c.loop-state.invariant c.put_state.ensures
