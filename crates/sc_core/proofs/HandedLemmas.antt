-- A turn that was computed before, where it is the one that a session takes.
use Rattle.std.proofs.Common.{◌≡◌, ℕ, [], None, Some, option_and_then, option_map, slice_get, sym, ap, ◌∙◌}
use Rattle.std.proofs.lemmas.Option.{same_Some}
use Rattle.std.specs.Arc.{arc_value}
use Rattle.sc_types.specs.declared.chart.Chart.{Chart}
use Rattle.sc_types.specs.declared.host.SessionImage.{SessionImage}
use Rattle.sc_types.specs.declared.session.Cue.{Cue}
use Rattle.sc_types.specs.declared.session.SessionState.{SessionState}
use Rattle.sc_law.specs.Fitting.{Fits, HasCue}
use Rattle.sc_law.specs.Legality.{legal_fault}
use Rattle.sc_law.specs.Turned.{IsTurnOf, TurnedOf}
use Rattle.sc_core.specs.Bodies.{image}
use Rattle.sc_machine.specs.Cues.{cue_of}
use Rattle.sc_core.specs.Holding.{IsHeld}
use Rattle.sc_machine.specs.Hosts.{chart_named, chart_place}
use Rattle.sc_core.specs.Inputs.{IsInput}
use Rattle.sc_core.specs.declared.body.Body.{Body}
use Rattle.sc_core.specs.declared.body.InstalledChart.{InstalledChart}
use Rattle.sc_core.specs.declared.inputs.TurnInput.{TurnInput}
use Rattle.sc_core.specs.declared.session.Session.{Session}
use Rattle.sc_machine.proofs.FitLemmas.{fits-at, waits-for}
use Rattle.sc_core.proofs.PlanLemmas.{only_there, plan_of_name, plan_seen, settled_state}

-- a turn of the same cue, state and chart is that of the session
pub handed_is : {P : Type 0} (h : Body P) (place : ℕ) (s : Session) (cue : Cue) (t : TurnedOf) (x : SessionImage)
    → slice_get h.sessions.items place ≡ Some s
    → option_map (λ (y : Session). y.failures.items) (slice_get h.sessions.items place) ≡ Some []
    → slice_get (image h).sessions place ≡ Some x
    → t.cue ≡ cue → t.before ≡ s.state → t.chart ≡ chart_named (image h) x.state.chart
    → IsTurnOf (chart_named (image h) x.state.chart) x.state cue t
handed_is h place s cue t x at settled there cues states charts =
    let none : s.failures.items ≡ [] =
    same_Some s.failures.items [] (sym (ap (λ o. option_map (λ (y : Session). y.failures.items) o) at) ∙ settled) in
    let seen = ap (λ (y : SessionImage). y.state) (only_there h.sessions.items place s x at there) in
    (charts, states ∙ sym (settled_state s none) ∙ seen, cues)

-- the chart, the state and the cue of a session are what a turn is computed from
pub record Turns (k : Chart) (s : SessionState) (cue : Cue) : Type 0 where
  pub legal : legal_fault k ≡ None
  pub fits : Fits k s
  pub waits : HasCue s cue

pub turns_at : {P : Type 0} (chart_of : P → Chart) (h : Body P) (place : ℕ) (x : SessionImage) (cue : Cue) → IsHeld chart_of h
    → slice_get (image h).sessions place ≡ Some x → cue_of x ≡ Some cue
    → Turns (chart_named (image h) x.state.chart) x.state cue
turns_at chart_of h place x cue held there cued =
    let fit = fits-at (image h) place x held.sound.sessions there in
    let found = plan_of_name chart_of h x.state.chart held.plans fit.chart in
    let waits = waits-for x cue cued in
    record {
      legal = ap legal_fault (sym found.2.plan) ∙ found.2.legal;
      fits = fit.fits waits.live;
      waits = waits.cue;
    }

-- what is copied of the plan and the state is what the turn is computed from
pub input_seen : {P : Type 0} (chart_of : P → Chart) (h : Body P) (place : ℕ) (s : Session) (c : InstalledChart P) (x : SessionImage)
    (i : TurnInput P) → IsHeld chart_of h → slice_get h.sessions.items place ≡ Some s
    → option_map (λ (y : Session). y.failures.items) (slice_get h.sessions.items place) ≡ Some []
    → Some c ≡ option_and_then (slice_get h.charts.items) (chart_place (image h) s.state.chart)
    → slice_get (image h).sessions place ≡ Some x → arc_value i.plan ≡ arc_value c.plan → i.before ≡ s.state
    → cue_of x ≡ Some i.cue → IsInput chart_of (image h) x i
input_seen chart_of h place s c x i held at settled found there plan before cued =
    let none : s.failures.items ≡ [] =
    same_Some s.failures.items [] (sym (ap (λ o. option_map (λ (y : Session). y.failures.items) o) at) ∙ settled) in
    let seen = ap (λ (y : SessionImage). y.state) (only_there h.sessions.items place s x at there) in
    let can = turns_at chart_of h place x i.cue held there cued in
    record {
      chart = ap chart_of plan ∙ plan_seen chart_of h place s c x held at found there;
      before = before ∙ sym (settled_state s none) ∙ seen;
      cue = cued;
      legal = can.legal;
      fits = can.fits;
      has = can.waits;
    }
