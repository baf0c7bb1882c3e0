use Rattle.std.proofs.Common.{rules, ◌≡◌, sym}
use Rattle.std.specs.Arc.{arc_value}
use Rattle.sc_core.proofs.HandedLemmas.{input_seen}
use Rattle.sc_core.proofs.PlanLemmas.{chart_there}
use Rattle.sc_core.proofs.inputs.input_of.Goals as goal

pub unreachable-requires-in_default-chart_of : goal.unreachable-requires-in_default-chart_of
unreachable-requires-in_default-chart_of g c =
    chart_there g.E.Engine.chart_of c.args.body.now c.args.place c.in-Some.session.now c.requires.held
    (sym c.in-Some.ensures) c.in_default-chart_of.ensures

pub returns : goal.returns
returns g c = λ s there.
    let plan : arc_value c.in_ok-plan.plan ≡ arc_value c.in-Some-chart_of.chart.now.plan = search rules in
    let before : c.in_ok-before.before ≡ c.in-Some.session.now.state = search rules in
    input_seen g.E.Engine.chart_of c.args.body.now c.args.place c.in-Some.session.now c.in-Some-chart_of.chart.now s
    (record { plan = c.in_ok-plan.plan; before = c.in_ok-before.before; cue = c.args.cue })
    c.requires.held (sym c.in-Some.ensures) c.requires.settled c.in-Some-chart_of.ensures there plan before
    (c.requires.cue s there)
