use Rattle.std.proofs.Common.{◌≡◌, length, ap, subst, ◌∙◌, rules}
use Rattle.sc_machine.specs.Hosts.{chart_named}
use Rattle.sc_types.specs.declared.chart.Chart.{Chart}
use Rattle.sc_types.specs.declared.session.SessionState.{SessionState}
use Rattle.sc_report.specs.Outlets.{Puts, seen}
use Rattle.sc_report.specs.Report.{state_line}
use Rattle.sc_report.proofs.SessionLemmas.{told_without_internal}
use Rattle.sc_report.proofs.sessions.put_session.Goals as goal

pub returns : goal.returns
returns o c s there =
    let g = c.args.host.now.image in
    let chart : o.E.Engine.chart_of c.deref.result.now ≡ chart_named g s.state.chart = search (c.plan.ensures s there, rules) in
    let queued : c.queued.result ≡ length s.queued = c.queued.ensures s there in
    let line = ap (λ (x : Chart). state_line x c.state.result.now c.queued.result) chart
    ∙ ap (λ (x : SessionState). state_line (chart_named g s.state.chart) x c.queued.result) (c.state.ensures s there)
    ∙ told_without_internal (chart_named g s.state.chart) s.state c.state.result.now.internal c.queued.result
    ∙ ap (state_line (chart_named g s.state.chart) s.state) queued in
    subst (Puts (seen o.K.Sink.taken o.K.Sink.faults c.args.out.now) (seen o.K.Sink.taken o.K.Sink.faults c.put_state_line.new.out)) line c.put_state_line.ensures
