use Rattle.std.proofs.Common.{sym}
use Rattle.sc_core.proofs.PlanLemmas.{chart_seen, chart_there, plan_seen}
use Rattle.sc_core.proofs.plans.chart_at.Goals as goal

pub unreachable-requires-in_default-chart_of : goal.unreachable-requires-in_default-chart_of
unreachable-requires-in_default-chart_of g c =
    chart_there g.E.Engine.chart_of c.args.body.now c.args.place c.in-Some.session.now c.requires.held
    (sym c.in-Some.ensures) c.in_default-chart_of.ensures

pub returns-clause-chart : goal.returns-clause-chart
returns-clause-chart g c = λ s there.
    chart_seen g.E.Engine.chart_of c.args.body.now c.args.place c.in-Some.session.now c.in-Some-chart_of.chart.now s
    c.requires.held (sym c.in-Some.ensures) c.in-Some-chart_of.ensures there

pub returns-clause-plan : goal.returns-clause-plan
returns-clause-plan g c = λ s there.
    plan_seen g.E.Engine.chart_of c.args.body.now c.args.place c.in-Some.session.now c.in-Some-chart_of.chart.now s
    c.requires.held (sym c.in-Some.ensures) c.in-Some-chart_of.ensures there
