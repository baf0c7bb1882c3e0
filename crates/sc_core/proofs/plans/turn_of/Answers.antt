use Rattle.std.proofs.Common.{ap, subst, sym, ◌∙◌}
use Rattle.std.specs.Arc.{arc_value}
use Rattle.sc_law.specs.Fitting.{Fits, HasCue}
use Rattle.sc_law.specs.Legality.{legal_fault}
use Rattle.sc_law.specs.Turn.{turn}
use Rattle.sc_core.proofs.DraftLemmas.{each_ok}
use Rattle.sc_core.proofs.PlanLemmas.{IsTurning, chart_there, fits_seen, turn_seen, turning}
use Rattle.sc_core.proofs.plans.turn_of.Goals as goal

pub unreachable-requires-in_default-chart_of : goal.unreachable-requires-in_default-chart_of
unreachable-requires-in_default-chart_of g c =
    chart_there g.E.Engine.chart_of c.args.body.now c.args.place c.in-Some.session.now c.requires.held
    (sym c.in-Some.ensures) c.in_default-chart_of.ensures

pub give-requires-clause-legal : goal.give-requires-clause-legal
give-requires-clause-legal g c =
    let is = turning g.E.Engine.chart_of c.args.body.now c.args.place c.in-Some.session.now c.args.cue.now
    c.in-Some-chart_of.chart.now c.requires.held (sym c.in-Some.ensures) c.requires.settled c.requires.cue
    c.in-Some-chart_of.ensures in
    ap (λ p. legal_fault (g.E.Engine.chart_of p)) c.deref.ensures ∙ is.legal

pub give-requires-clause-fits : goal.give-requires-clause-fits
give-requires-clause-fits g c =
    let is = turning g.E.Engine.chart_of c.args.body.now c.args.place c.in-Some.session.now c.args.cue.now
    c.in-Some-chart_of.chart.now c.requires.held (sym c.in-Some.ensures) c.requires.settled c.requires.cue
    c.in-Some-chart_of.ensures in
    subst (λ p. Fits (g.E.Engine.chart_of p) c.state.result.now) (sym c.deref.ensures)
    (subst (Fits (g.E.Engine.chart_of (arc_value c.in-Some-chart_of.chart.now.plan))) (sym c.state.ensures) is.fits)

pub give-requires-clause-cue : goal.give-requires-clause-cue
give-requires-clause-cue g c =
    let is = turning g.E.Engine.chart_of c.args.body.now c.args.place c.in-Some.session.now c.args.cue.now
    c.in-Some-chart_of.chart.now c.requires.held (sym c.in-Some.ensures) c.requires.settled c.requires.cue
    c.in-Some-chart_of.ensures in
    subst (λ s. HasCue s c.args.cue.now) (sym c.state.ensures) is.cue

pub returns-clause-turn : goal.returns-clause-turn
returns-clause-turn g c =
    let body = c.args.body.now in
    let s = c.in-Some.session.now in
    let is = turning g.E.Engine.chart_of body c.args.place s c.args.cue.now c.in-Some-chart_of.chart.now c.requires.held
    (sym c.in-Some.ensures) c.requires.settled c.requires.cue c.in-Some-chart_of.ensures in
    let seen = subst (λ p. IsTurning body s c.args.cue.now (g.E.Engine.chart_of p)) (sym c.deref.ensures) is in
    each_ok (λ t given x there. turn_seen body c.args.place s c.args.cue.now (g.E.Engine.chart_of c.deref.result.now) t x
    (sym c.in-Some.ensures) there seen
    (given ∙ ap (λ before. turn (g.E.Engine.chart_of c.deref.result.now) before c.args.cue.now) c.state.ensures)) c.give.result c.give.ensures.given

pub returns-clause-fits : goal.returns-clause-fits
returns-clause-fits g c =
    let body = c.args.body.now in
    let s = c.in-Some.session.now in
    let is = turning g.E.Engine.chart_of body c.args.place s c.args.cue.now c.in-Some-chart_of.chart.now c.requires.held
    (sym c.in-Some.ensures) c.requires.settled c.requires.cue c.in-Some-chart_of.ensures in
    let seen = subst (λ p. IsTurning body s c.args.cue.now (g.E.Engine.chart_of p)) (sym c.deref.ensures) is in
    each_ok (λ t fits x there running. fits_seen body c.args.place s c.args.cue.now (g.E.Engine.chart_of c.deref.result.now)
    t.after x (sym c.in-Some.ensures) there seen (fits running)) c.give.result c.give.ensures.fits
