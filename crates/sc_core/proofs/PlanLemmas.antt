-- The plan of a session's chart, and the turn that it computes.
use Rattle.std.proofs.Common.{◌≡◌, ◌<◌, ℕ, zero, suc, arith, length, ◌∷◌, ◌++◌, All, true, Option, Some, None, Ok, is_some, option_and_then, option_map, unwrap_or, List, [], append-nil, get_or, map, slice_get, refl, sym, ap, subst, ◌∙◌}
use Rattle.std.specs.Arc.{arc_value}
use Rattle.std.specs.Result.{result_ok}
use Rattle.std.proofs.lemmas.Option.{get_or_from_slice_get, same_Some, slice_get-get_or, slice_get-map, slice_get_within}
use Rattle.sc_types.specs.ChartTexts.{chart_of as chart_text}
use Rattle.sc_expr.specs.Reading.{expr_of}
use Rattle.sc_types.specs.declared.chart.Chart.{Chart}
use Rattle.sc_types.specs.declared.host.ChartImage.{ChartImage}
use Rattle.sc_types.specs.declared.host.SessionImage.{SessionImage}
use Rattle.sc_types.specs.declared.session.Cue.{Cue}
use Rattle.sc_law.specs.Fitting.{Fits, HasCue}
use Rattle.sc_law.specs.LegalCharts.{legal_chart_of}
use Rattle.sc_law.specs.Legality.{legal_fault}
use Rattle.sc_law.specs.Turn.{TurnResult, turn}
use Rattle.sc_types.specs.declared.session.SessionState.{SessionState}
use Rattle.sc_core.specs.Bodies.{image, session_image}
use Rattle.sc_machine.specs.Cues.{cue_of}
use Rattle.sc_core.specs.Holding.{IsHeld}
use Rattle.sc_machine.specs.Hosts.{bare_chart, chart_at, chart_named, chart_place, has_chart, is_chart_named}
use Rattle.sc_core.specs.HostStates.{IsPlanned}
use Rattle.sc_core.specs.declared.body.Body.{Body}
use Rattle.sc_core.specs.declared.body.InstalledChart.{InstalledChart}
use Rattle.sc_core.specs.declared.session.Session.{Session}
use Rattle.sc_machine.proofs.FitLemmas.{fits-at, legal_of, no_chart, place_within, waits-for}
use Rattle.sc_core.proofs.PrepareLemmas.{some_position}
use Rattle.sc_core.proofs.SetLemmas.{image_at}

-- an installed chart with its plan, which is that of the legal chart of the name
pub record IsPlanOf {P : Type 0} (chart_of : P → Chart) (h : Body P) (name : List ℕ) (c : InstalledChart P) : Type 0 where
  pub chart : arc_value c.chart ≡ chart_named (image h) name
  pub plan : chart_of (arc_value c.plan) ≡ chart_named (image h) name
  pub legal : legal_fault (chart_of (arc_value c.plan)) ≡ None

abbrev image_of : {P : Type 0} → InstalledChart P → ChartImage
image_of c = c.image

-- the chart of a name is found with its plan
pub plan_of_name : {P : Type 0} (chart_of : P → Chart) (h : Body P) (name : List ℕ) → All (IsPlanned chart_of) h.charts.items
    → has_chart (image h) name ≡ true
    → (c : InstalledChart P) × (option_and_then (slice_get h.charts.items) (chart_place (image h) name) ≡ Some c)
    × IsPlanOf chart_of h name c
plan_of_name {P = P} chart_of h name plans has =
    at_place (chart_place (image h) name) refl (some_position (is_chart_named name) (image h).charts ∙ has)
  where
    items : List (InstalledChart P)
    items = h.charts.items

    at_chart : (p : ℕ) → chart_place (image h) name ≡ Some p → (x : ChartImage) → slice_get (image h).charts p ≡ Some x
        → (o : Option (InstalledChart P)) → slice_get items p ≡ o → option_map image_of o ≡ Some x
        → (c : InstalledChart P) × (option_and_then (slice_get items) (chart_place (image h) name) ≡ Some c)
        × IsPlanOf chart_of h name c
    at_chart p placed x there None at is = absurd cc
    at_chart p placed x there (Some c) at is =
        let same : c.image ≡ x = same_Some c.image x is in
        let planned : IsPlanned chart_of c = subst (IsPlanned chart_of) (get_or_from_slice_get items p c c at)
        (plans p c (slice_get_within items p c at)) in
        let spelled : legal_chart_of x.text ≡ Ok (arc_value c.chart) =
        ap (λ (i : ChartImage). legal_chart_of i.text) (sym same) ∙ planned.chart in
        let named : chart_named (image h) name ≡ arc_value c.chart =
        ap (λ o. unwrap_or (option_and_then (chart_at (image h)) o) bare_chart) placed
        ∙ ap (λ o. unwrap_or (option_and_then (λ (i : ChartImage). result_ok (legal_chart_of i.text)) o) bare_chart) there
        ∙ ap (λ r. unwrap_or (result_ok r) bare_chart) spelled in (
          c,
          ap (λ o. option_and_then (slice_get items) o) placed ∙ at,
          record {
            chart = sym named;
            plan = planned.plan ∙ sym named;
            legal = legal_of (chart_text expr_of x.text) (chart_of (arc_value c.plan)) (spelled ∙ ap Ok (sym planned.plan));
          },
        )

    at_place : (o : Option ℕ) → chart_place (image h) name ≡ o → is_some o ≡ true
        → (c : InstalledChart P) × (option_and_then (slice_get items) (chart_place (image h) name) ≡ Some c)
        × IsPlanOf chart_of h name c
    at_place None placed is = absurd cc
    at_place (Some p) placed is =
        let x = get_or (image h).charts p no_chart in
        let there : slice_get (image h).charts p ≡ Some x =
        slice_get-get_or (image h).charts p no_chart (place_within (is_chart_named name) (image h).charts p placed) in
        at_chart p placed x there (slice_get items p) refl (sym (slice_get-map image_of items p) ∙ there)

-- a session whose internal queue is in one part has its state as contracts see it
pub settled_state : (s : Session) → s.failures.items ≡ [] → (session_image s).state ≡ s.state
settled_state s none =
    ap (λ es. record s.state { internal = s.state.internal ++ es }) none
    ∙ ap (λ es. record s.state { internal = es }) (append-nil s.state.internal)

-- ---- a turn is asked for

-- what an engine is to be given
pub record IsTurning {P : Type 0} (h : Body P) (s : Session) (by : Cue) (k : Chart) : Type 0 where
  pub legal : legal_fault k ≡ None
  pub fits : Fits k s.state
  pub cue : HasCue s.state by
  pub chart : k ≡ chart_named (image h) s.state.chart
  pub state : (session_image s).state ≡ s.state

-- the chart of a session is there
pub chart_there : {P : Type 0} (chart_of : P → Chart) (h : Body P) (place : ℕ) (s : Session) → IsHeld chart_of h
    → slice_get h.sessions.items place ≡ Some s
    → None ≡ option_and_then (slice_get h.charts.items) (chart_place (image h) s.state.chart) → ⊥
chart_there chart_of h place s held at none =
    let there = image_at h.sessions.items place s at in
    let fit = fits-at (image h) place (session_image s) held.sound.sessions there in
    let found = plan_of_name chart_of h s.state.chart held.plans fit.chart in
    let no = none ∙ found.1 in
    absurd cc

-- the plan that is found is that of the session's chart
pub plan_found : {P : Type 0} (chart_of : P → Chart) (h : Body P) (place : ℕ) (s : Session) (c : InstalledChart P)
    → IsHeld chart_of h → slice_get h.sessions.items place ≡ Some s
    → Some c ≡ option_and_then (slice_get h.charts.items) (chart_place (image h) s.state.chart)
    → IsPlanOf chart_of h s.state.chart c
plan_found chart_of h place s c held at is =
    let there = image_at h.sessions.items place s at in
    let fit = fits-at (image h) place (session_image s) held.sound.sessions there in
    let found = plan_of_name chart_of h s.state.chart held.plans fit.chart in
    subst (IsPlanOf chart_of h s.state.chart) (sym (same_Some c found.0 (is ∙ found.1))) found.2

-- its chart and state are what an engine may be given
pub turning : {P : Type 0} (chart_of : P → Chart) (h : Body P) (place : ℕ) (s : Session) (cue : Cue) (c : InstalledChart P)
    → IsHeld chart_of h → slice_get h.sessions.items place ≡ Some s
    → option_map (λ (x : Session). x.failures.items) (slice_get h.sessions.items place) ≡ Some []
    → ((x : SessionImage) → slice_get (image h).sessions place ≡ Some x → cue_of x ≡ Some cue)
    → Some c ≡ option_and_then (slice_get h.charts.items) (chart_place (image h) s.state.chart)
    → IsTurning h s cue (chart_of (arc_value c.plan))
turning chart_of h place s cue c held at settled cued is =
    let there = image_at h.sessions.items place s at in
    let fit = fits-at (image h) place (session_image s) held.sound.sessions there in
    let plan = plan_found chart_of h place s c held at is in
    let waits = waits-for (session_image s) cue (cued (session_image s) there) in
    let none : s.failures.items ≡ [] =
    same_Some s.failures.items [] (sym (ap (λ o. option_map (λ (x : Session). x.failures.items) o) at) ∙ settled) in
    let state = settled_state s none in
    record {
      legal = plan.legal;
      fits = subst (λ st. Fits (chart_of (arc_value c.plan)) st) state
          (subst (λ k. Fits k (session_image s).state) (sym plan.plan) (fit.fits waits.live));
      cue = subst (λ st. HasCue st cue) state waits.cue;
      chart = plan.plan;
      state = state;
    }

-- what the session at a place is
pub only_there : (xs : List Session) (place : ℕ) (s : Session) (x : SessionImage) → slice_get xs place ≡ Some s
    → slice_get (map session_image xs) place ≡ Some x → session_image s ≡ x
only_there xs place s x at there = same_Some (session_image s) x (sym (image_at xs place s at) ∙ there)

-- the turn of what the body holds is that of what contracts see
pub turn_seen : {P : Type 0} (h : Body P) (place : ℕ) (s : Session) (cue : Cue) (k : Chart) (r : TurnResult) (x : SessionImage)
    → slice_get h.sessions.items place ≡ Some s → slice_get (image h).sessions place ≡ Some x → IsTurning h s cue k
    → r ≡ turn k s.state cue → r ≡ turn (chart_named (image h) x.state.chart) x.state cue
turn_seen h place s cue k r x at there is given =
    given ∙ ap (λ c. turn c s.state cue) is.chart ∙ ap (λ st. turn (chart_named (image h) s.state.chart) st cue) (sym is.state)
    ∙ ap (λ (y : SessionImage). turn (chart_named (image h) y.state.chart) y.state cue)
    (only_there h.sessions.items place s x at there)

pub fits_seen : {P : Type 0} (h : Body P) (place : ℕ) (s : Session) (cue : Cue) (k : Chart) (after : SessionState) (x : SessionImage)
    → slice_get h.sessions.items place ≡ Some s → slice_get (image h).sessions place ≡ Some x → IsTurning h s cue k
    → Fits k after → Fits (chart_named (image h) x.state.chart) after
fits_seen h place s cue k after x at there is fits =
    subst (λ (y : SessionImage). Fits (chart_named (image h) y.state.chart) after)
    (only_there h.sessions.items place s x at there) (subst (λ c. Fits c after) is.chart fits)

-- the plan of the chart that a session runs
pub plan_seen : {P : Type 0} (chart_of : P → Chart) (h : Body P) (place : ℕ) (s : Session) (c : InstalledChart P)
    (x : SessionImage) → IsHeld chart_of h → slice_get h.sessions.items place ≡ Some s
    → Some c ≡ option_and_then (slice_get h.charts.items) (chart_place (image h) s.state.chart)
    → slice_get (image h).sessions place ≡ Some x
    → chart_of (arc_value c.plan) ≡ chart_named (image h) x.state.chart
plan_seen chart_of h place s c x held at is there =
    (plan_found chart_of h place s c held at is).plan
    ∙ ap (λ (y : SessionImage). chart_named (image h) y.state.chart) (only_there h.sessions.items place s x at there)

-- and that chart itself
pub chart_seen : {P : Type 0} (chart_of : P → Chart) (h : Body P) (place : ℕ) (s : Session) (c : InstalledChart P)
    (x : SessionImage) → IsHeld chart_of h → slice_get h.sessions.items place ≡ Some s
    → Some c ≡ option_and_then (slice_get h.charts.items) (chart_place (image h) s.state.chart)
    → slice_get (image h).sessions place ≡ Some x
    → arc_value c.chart ≡ chart_named (image h) x.state.chart
chart_seen chart_of h place s c x held at is there =
    (plan_found chart_of h place s c held at is).chart
    ∙ ap (λ (y : SessionImage). chart_named (image h) y.state.chart) (only_there h.sessions.items place s x at there)

-- a place below their number is that of a session
pub session_there : (items : List Session) (place : ℕ) → place < length items
    → (s : SessionImage) × (slice_get (map session_image items) place ≡ Some s)
session_there [] place less = absurd (omega (arith, less))
session_there (x ∷ xs) zero less = (session_image x, refl)
session_there (x ∷ xs) (suc place) less = session_there xs place (omega (arith, less))
