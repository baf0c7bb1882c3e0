-- Sessions that fit their charts, as the host changes.
use Rattle.std.proofs.Common.{◌≡◌, ℕ, zero, suc, ◌+◌, ◌<◌, ◌++◌, ◌||◌, nat_lt, not, Bool, true, false, cond, All, Option, Some, None, Result, Ok, Err, option_and_then, unwrap_or, List, [], ◌∷◌, length, length-append, map, slice_get, refl, sym, ap, subst, ◌∙◌, arith, filter, ◌&&◌, if◌then◌else◌}
use Rattle.std.specs.List.{AllByRecursion, IsDistinct, list_all, list_any, position, position_or_len}
use Rattle.std.specs.Result.{result_ok}
use Rattle.std.proofs.lemmas.Bool.Decides.{nat_tests}
use Rattle.std.proofs.lemmas.Option.{get_or_from_slice_get, slice_get_within, slice_get-get_or}
use Rattle.std.proofs.Math.ListN.{get_or-append}
use Rattle.std.specs.Option.{option_map_or}
use Rattle.sc_types.specs.ChartTexts.{chart_of}
use Rattle.sc_types.specs.declared.chart.Chart.{Chart}
use Rattle.sc_types.specs.declared.chart.ChartFault.{ChartFault}
use Rattle.sc_types.specs.declared.event.Event.{Event}
use Rattle.sc_types.specs.declared.host.ChartImage.{ChartImage}
use Rattle.sc_types.specs.declared.host.HostImage.{HostImage}
use Rattle.sc_types.specs.declared.host.SessionImage.{SessionImage}
use Rattle.sc_types.specs.declared.session.Cue.{Cue}
use Rattle.sc_types.specs.declared.session.Cue.TheVariants.{Cancel, External, Fresh, Resume}
use Rattle.sc_types.specs.declared.session.Phase.{Phase}
use Rattle.sc_types.specs.declared.session.Phase.TheVariants as phase
use Rattle.sc_types.specs.declared.session.Invoked.{Invoked}
use Rattle.sc_types.specs.declared.session.SessionState.{SessionState}
use Rattle.std.specs.Str.{bytes_eq}
use Rattle.sc_base.specs.Ascending.{contains}
use Rattle.sc_law.specs.Fitting.{Fits, FitsRun, HasCue, fresh, is_own_invoke, is_same_element, runs}
use Rattle.sc_expr.specs.Reading.{expr_of}
use Rattle.sc_law.specs.Legality.{legal_fault}
use Rattle.sc_law.specs.LegalCharts.{legal_chart_of, legal_or_fault}
use Rattle.sc_law.specs.Turn.{TurnResult, begin, turn}
use Rattle.sc_law.specs.Turned.{IsTurn, IsTurnOf, TurnedOf}
use Rattle.sc_machine.specs.Commands.{fresh_session}
use Rattle.sc_machine.specs.Cues.{cue_in, cue_of, outer_cue, queued_cue}
use Rattle.sc_machine.specs.Deliveries.{hears, told, unborn_event, without_invoke}
use Rattle.sc_machine.specs.FittingHosts.{FitsChart}
use Rattle.sc_machine.specs.Hosts.{bare_chart, chart_named, has_chart, is_chart_named, is_live, is_running}
use Rattle.sc_machine.proofs.TurnLemmas.{IsPast}

-- ---- a chart more

-- a chart that is there stays where it is
pub place_more : (p : ChartImage → Bool) (xs ys : List ChartImage) → list_any p xs ≡ true
    → (position_or_len p (xs ++ ys) ≡ position_or_len p xs) × (position_or_len p xs < length xs)
place_more p [] ys h = absurd (cc)
place_more p (x ∷ xs) ys h = by (p x) h (place_more p xs ys) where
  by : (v : Bool) → (v || list_any p xs) ≡ true
      → (list_any p xs ≡ true → (position_or_len p (xs ++ ys) ≡ position_or_len p xs) × (position_or_len p xs < length xs))
      → (cond (not v) (1 + position_or_len p (xs ++ ys)) 0 ≡ cond (not v) (1 + position_or_len p xs) 0)
      × (cond (not v) (1 + position_or_len p xs) 0 < suc (length xs))
  by true h so = (refl, omega arith)
  by false h so = let less = (so h).1 in (ap (λ n. 1 + n) (so h).0, omega (arith, less))

pub no_chart : ChartImage
no_chart = record { name = []; text = [] }

get_more : (xs ys : List ChartImage) (i : ℕ) → i < length xs → slice_get (xs ++ ys) i ≡ slice_get xs i
get_more xs ys i l =
    let long = length-append xs ys in
    slice_get-get_or (xs ++ ys) i no_chart (omega (arith, long))
    ∙ ap (λ (x : ChartImage). Some x) (get_or-append xs ys no_chart i l) ∙ sym (slice_get-get_or xs i no_chart l)

any_more : (p : ChartImage → Bool) (xs ys : List ChartImage) → list_any p xs ≡ true → list_any p (xs ++ ys) ≡ true
any_more p [] ys h = absurd (cc)
any_more p (x ∷ xs) ys h = by (p x) h (any_more p xs ys) where
  by : (v : Bool) → (v || list_any p xs) ≡ true → (list_any p xs ≡ true → list_any p (xs ++ ys) ≡ true)
      → (v || list_any p (xs ++ ys)) ≡ true
  by true h so = refl
  by false h so = so h

-- the chart at the place of a name among these
abbrev found_in : List ChartImage → Option ℕ → Option Chart
found_in xs place =
    option_and_then (λ i. option_and_then (λ (x : ChartImage). result_ok (legal_chart_of x.text)) (slice_get xs i)) place

found_more : (name : List ℕ) (xs ys : List ChartImage) → list_any (is_chart_named name) xs ≡ true
    → found_in (xs ++ ys) (position (is_chart_named name) (xs ++ ys)) ≡ found_in xs (position (is_chart_named name) xs)
found_more name xs ys h =
    let p = is_chart_named name in
    let k = position_or_len p xs in
    let more = place_more p xs ys h in
    let long = length-append xs ys in
    let less : k < length xs = more.1 in
    let here : nat_lt k (length xs) ≡ true = grind (arith, nat_tests) in
    let there : nat_lt k (length (xs ++ ys)) ≡ true = grind (arith, nat_tests) in
    ap (λ n. found_in (xs ++ ys) (cond (nat_lt n (length (xs ++ ys))) (Some n) None)) more.0
    ∙ ap (λ v. found_in (xs ++ ys) (cond v (Some k) None)) there
    ∙ ap (λ o. option_and_then (λ (x : ChartImage). result_ok (legal_chart_of x.text)) o) (get_more xs ys k less)
    ∙ sym (ap (λ v. found_in xs (cond v (Some k) None)) here)

-- a session fits its chart as before, where there is one chart more
pub fits-more : (g h : HostImage) (x : ChartImage) (s : SessionImage) → h.charts ≡ g.charts ++ x ∷ [] → FitsChart g s
    → FitsChart h s
fits-more g h x s e f =
    let name = s.state.chart in
    let same = ap (λ o. unwrap_or o bare_chart) (found_more name g.charts (x ∷ []) f.chart) in
    let moved = ap (λ cs. unwrap_or (found_in cs (position (is_chart_named name) cs)) bare_chart) e in
    record {
      chart = ap (λ cs. list_any (is_chart_named name) cs) e ∙ any_more (is_chart_named name) g.charts (x ∷ []) f.chart;
      fits = λ live. subst (λ (k : Chart). Fits k s.state) (sym (moved ∙ same)) (f.fits live);
    }

-- ---- other changes

pub fits-same : (g h : HostImage) (s : SessionImage) → h.charts ≡ g.charts → FitsChart g s → FitsChart h s
fits-same g h s e f = record {
  chart = ap (λ cs. list_any (is_chart_named s.state.chart) cs) e ∙ f.chart;
  fits = λ live. subst (λ (k : Chart). Fits k s.state)
      (sym (ap (λ cs. unwrap_or (found_in cs (position (is_chart_named s.state.chart) cs)) bare_chart) e)) (f.fits live);
}

-- a session that was not stepped fits each chart
pub fresh-fits : (g : HostImage) (session chart : List ℕ) → has_chart g chart ≡ true → FitsChart g (fresh_session session chart)
fresh-fits g session chart h = record { chart = h; fits = λ live. fresh refl }

pub live-runs : (p : Phase) → IsPast p → is_live p ≡ true → p ≡ phase.Running
live-runs phase.Fresh past live = absurd past
live-runs phase.Running past live = refl
live-runs (phase.Ended how) past live = absurd (cc)

-- what a turn gave that was computed of the same chart, session and cue
pub turned-is : (k : Chart) (before : SessionState) (cue : Cue) (t : TurnedOf) → IsTurnOf k before cue t → IsTurn t
    → t.given ≡ turn k before cue
turned-is k before cue t of is =
    is.given ∙ ap (turn t.chart t.before) of.2 ∙ ap (λ b. turn t.chart b cue) of.1 ∙ ap (λ c. turn c before cue) of.0

-- and a session that goes on running fits that chart
pub turned-fits : (k : Chart) (before : SessionState) (cue : Cue) (t : TurnedOf) (r : TurnResult) → IsTurnOf k before cue t → IsTurn t
    → r ≡ t.given → r.after.phase ≡ phase.Running → Fits k r.after
turned-fits k before cue t r of is given running =
    subst (λ (x : TurnResult). Fits k x.after) (sym given)
    (subst (λ c. Fits c t.given.after) of.0 (is.fits (ap (λ (x : TurnResult). x.after.phase) (sym given) ∙ running)))

-- the session at a place
pub fits-at : (g : HostImage) (i : ℕ) (s : SessionImage) → All (FitsChart g) g.sessions → slice_get g.sessions i ≡ Some s → FitsChart g s
fits-at g i s h e = subst (FitsChart g) (get_or_from_slice_get g.sessions i s s e) (h i s (slice_get_within g.sessions i s e))

-- ---- cues

-- a session with a cue lives, and waits for that cue
pub record WaitsFor (s : SessionState) (c : Cue) : Type 0 where
  pub live : is_live s.phase ≡ true
  pub cue : HasCue s c

-- what a running session waits for
runs_on : (s : SessionState) (c : Cue) → s.phase ≡ phase.Running → HasCue s c → WaitsFor s c
runs_on s c running has = record { live = ap is_live running; cue = has }

waits_queued : (s : SessionState) (queued : List Event) (cue : Cue) → s.phase ≡ phase.Running → s.internal ≡ []
    → queued_cue queued ≡ Some cue → WaitsFor s cue
waits_queued s [] cue e i h = absurd (cc)
waits_queued s (q ∷ qs) (External v) e i h = runs_on s (External v) e (e, i)
waits_queued s (q ∷ qs) Fresh e i h = absurd (cc)
waits_queued s (q ∷ qs) Resume e i h = absurd (cc)
waits_queued s (q ∷ qs) Cancel e i h = absurd (cc)

waits_outer : (s : SessionState) (flagged : Bool) (queued : List Event) (cue : Cue) → s.phase ≡ phase.Running
    → s.internal ≡ [] → outer_cue flagged queued ≡ Some cue → WaitsFor s cue
waits_outer s false queued cue e i h = waits_queued s queued cue e i h
waits_outer s true queued Cancel e i h = runs_on s Cancel e e
waits_outer s true queued Fresh e i h = absurd (cc)
waits_outer s true queued Resume e i h = absurd (cc)
waits_outer s true queued (External v) e i h = absurd (cc)

waits : (s : SessionState) (p : Phase) (internal : List Event) (flagged : Bool) (queued : List Event) (cue : Cue)
    → s.phase ≡ p → s.internal ≡ internal → cue_in p internal flagged queued ≡ Some cue → WaitsFor s cue
waits s phase.Fresh internal flagged queued Fresh e i h = record { live = ap is_live e; cue = e }
waits s phase.Fresh internal flagged queued Resume e i h = absurd (cc)
waits s phase.Fresh internal flagged queued Cancel e i h = absurd (cc)
waits s phase.Fresh internal flagged queued (External v) e i h = absurd (cc)
waits s phase.Running (x ∷ xs) flagged queued Resume e i h =
    runs_on s Resume e (e, subst (λ es. 0 < length es) (sym i) (omega arith))
waits s phase.Running (x ∷ xs) flagged queued Fresh e i h = absurd (cc)
waits s phase.Running (x ∷ xs) flagged queued Cancel e i h = absurd (cc)
waits s phase.Running (x ∷ xs) flagged queued (External v) e i h = absurd (cc)
waits s phase.Running [] flagged queued cue e i h = waits_outer s flagged queued cue e i h
waits s (phase.Ended how) internal flagged queued cue e i h = absurd (cc)

-- a session with a cue lives, and waits for it
pub waits-for : (s : SessionImage) (cue : Cue) → cue_of s ≡ Some cue → WaitsFor s.state cue
waits-for s cue h = waits s.state s.state.phase s.state.internal s.flagged s.queued cue refl refl h

-- ---- failed sends

-- a run that fits has an internal queue of any events
hears_run : (c : Chart) (s : SessionImage) (sendid : List ℕ) → FitsRun c (begin c s.state)
    → FitsRun c (begin c (hears s sendid).state)
hears_run c s sendid f = record {
  legal = f.legal;
  active = f.active;
  entered = f.entered;
  in_order = f.in_order;
  kept = f.kept;
  recorded = f.recorded;
  invokes = f.invokes;
  no_invoke_twice = f.no_invoke_twice;
  to_start = f.to_start;
  none_started = f.none_started;
  no_name_twice = f.no_name_twice;
  declared = f.declared;
}

hears_fits : (c : Chart) (s : SessionImage) (sendid : List ℕ) → is_running s.state.phase ≡ true → Fits c s.state
    → Fits c (hears s sendid).state
hears_fits c s sendid running (fresh e) =
    let is_fresh : s.state.phase ≡ phase.Fresh = ap (λ (x : SessionState). x.phase) e in
    let never : true ≡ false = sym running ∙ ap is_running is_fresh in
    absurd (cc)
hears_fits c s sendid running (runs r) = runs (record { running = r.running; fits = hears_run c s sendid r.fits })

-- a session that hears of a failed send fits its chart as before
pub hears-fits : (g : HostImage) (s : SessionImage) (sendid : List ℕ) → is_running s.state.phase ≡ true → FitsChart g s
    → FitsChart g (hears s sendid)
hears-fits g s sendid running f = record {
  chart = f.chart;
  fits = λ live. hears_fits (chart_named g s.state.chart) s sendid running (f.fits live);
}

-- ---- invocations

-- both hold
pub both_hold : (a b : Bool) → (a && b) ≡ true → (a ≡ true) × (b ≡ true)
both_hold true b h = (refl, h)
both_hold false b h = absurd (cc)

kept_all : {X : Type 0} (p q : X → Bool) (xs : List X) → list_all p xs ≡ true → list_all p (filter q xs) ≡ true
kept_all p q [] h = refl
kept_all {X = X} p q (x ∷ xs) h =
    let two = both_hold (p x) (list_all p xs) h in by (q x) two.0 (kept_all p q xs two.1) where
      by : (v : Bool) → p x ≡ true → list_all p (filter q xs) ≡ true
          → list_all p (cond v (x ∷ filter q xs) (filter q xs)) ≡ true
      by true own rest = ap (λ b. b && list_all p (filter q xs)) own ∙ rest
      by false own rest = rest

kept_each : {X : Type 0} (P : X → Type 0) (q : X → Bool) (xs : List X) → AllByRecursion P xs → AllByRecursion P (filter q xs)
kept_each P q [] h = tt
kept_each P q (x ∷ xs) h = by (q x) (kept_each P q xs h.1) where
  by : (v : Bool) → AllByRecursion P (filter q xs) → AllByRecursion P (cond v (x ∷ filter q xs) (filter q xs))
  by true rest = (h.0, rest)
  by false rest = rest

kept_distinct : {X : Type 0} (same : X → X → Bool) (q : X → Bool) (xs : List X) → IsDistinct same xs
    → IsDistinct same (filter q xs)
unfolding IsDistinct
kept_distinct same q [] h = tt
kept_distinct same q (x ∷ xs) h = by (q x) (kept_distinct same q xs h.1) where
  by : (v : Bool) → IsDistinct same (filter q xs) → IsDistinct same (cond v (x ∷ filter q xs) (filter q xs))
  by true rest = (kept_each (λ y. same x y ≡ false) q xs h.0, rest)
  by false rest = rest

-- a run that fits does so with fewer invocations
dropped_run : (c : Chart) (s : SessionState) (q : Invoked → Bool) → FitsRun c (begin c s)
    → FitsRun c (begin c (record s { invokes = filter q s.invokes }))
dropped_run c s q f = record {
  legal = f.legal;
  active = f.active;
  entered = f.entered;
  in_order = f.in_order;
  kept = f.kept;
  recorded = f.recorded;
  invokes = kept_all (is_own_invoke c s.configuration) q s.invokes f.invokes;
  no_invoke_twice = kept_distinct is_same_element q s.invokes f.no_invoke_twice;
  to_start = f.to_start;
  none_started = kept_all (λ (i : Invoked). not (contains (begin c s).running.todo i.state)) q s.invokes f.none_started;
  no_name_twice = f.no_name_twice;
  declared = f.declared;
}

dropped_fits : (c : Chart) (s : SessionState) (q : Invoked → Bool) → Fits c s
    → Fits c (record s { invokes = filter q s.invokes })
dropped_fits c s q (fresh e) = fresh (ap (λ (x : SessionState). record x { invokes = filter q x.invokes }) e)
dropped_fits c s q (runs r) = runs (record { running = r.running; fits = dropped_run c s q r.fits })

heard_run : (c : Chart) (s : SessionState) (e : Event) → FitsRun c (begin c s)
    → FitsRun c (begin c (record s { internal = s.internal ++ e ∷ [] }))
heard_run c s e f = record {
  legal = f.legal;
  active = f.active;
  entered = f.entered;
  in_order = f.in_order;
  kept = f.kept;
  recorded = f.recorded;
  invokes = f.invokes;
  no_invoke_twice = f.no_invoke_twice;
  to_start = f.to_start;
  none_started = f.none_started;
  no_name_twice = f.no_name_twice;
  declared = f.declared;
}

heard_fits : (c : Chart) (s : SessionState) (e : Event) → is_running s.phase ≡ true → Fits c s
    → Fits c (record s { internal = s.internal ++ e ∷ [] })
heard_fits c s e running (fresh is) =
    let is_fresh : s.phase ≡ phase.Fresh = ap (λ (x : SessionState). x.phase) is in
    let never : true ≡ false = sym running ∙ ap is_running is_fresh in
    absurd (cc)
heard_fits c s e running (runs r) = runs (record { running = r.running; fits = heard_run c s e r.fits })

-- a session that is told of an event fits its chart as before
pub told-fits : (g : HostImage) (s : SessionImage) (e : Event) → FitsChart g s → FitsChart g (told e s)
told-fits g s e f = by (is_running s.state.phase) refl where
  by : (runs : Bool) → is_running s.state.phase ≡ runs
      → FitsChart g (if runs then record s { state = record s.state { internal = s.state.internal ++ e ∷ [] } } else s)
  by true running = record {
    chart = f.chart;
    fits = λ live. heard_fits (chart_named g s.state.chart) s.state e running (f.fits live);
  }
  by false running = f

-- and one whose invocation started nothing
pub unborn-fits : (g : HostImage) (s : SessionImage) (id child : List ℕ) → FitsChart g s
    → FitsChart g (told (unborn_event id) (without_invoke child s))
unborn-fits g s id child f = told-fits g (without_invoke child s) (unborn_event id) (record {
  chart = f.chart;
  fits = λ live. dropped_fits (chart_named g s.state.chart) s.state (λ (i : Invoked). not (bytes_eq i.child child))
      (f.fits live);
})

-- ---- plans

pub legal_of : (r : Result Chart ChartFault) (k : Chart) → legal_or_fault r ≡ Ok k → legal_fault k ≡ None
legal_of (Err fault) k h = absurd (cc)
legal_of (Ok c) k h = by (legal_fault c) refl h where
  by : (o : Option ChartFault) → legal_fault c ≡ o → option_map_or Err o (Ok c) ≡ Ok k → legal_fault k ≡ None
  by None e h = let same : c ≡ k = cc in subst (λ x. legal_fault x ≡ None) same e
  by (Some fault) e h = absurd (cc)

-- the chart at a place is what the text there spells
pub given_at : (xs : List ChartImage) (ps : List Chart) (i : ℕ)
    → map (λ (x : ChartImage). legal_chart_of x.text) xs ≡ map Ok ps
    → (option_and_then (λ (x : ChartImage). result_ok (legal_chart_of x.text)) (slice_get xs i) ≡ slice_get ps i)
    × (length xs ≡ length ps)
given_at [] [] i h = (refl, refl)
given_at [] (p ∷ ps) i h = absurd (cc)
given_at (x ∷ xs) [] i h = absurd (cc)
given_at (x ∷ xs) (p ∷ ps) zero h = let more = given_at xs ps zero cc in (cc, ap (λ n. suc n) more.1)
given_at (x ∷ xs) (p ∷ ps) (suc i) h = let more = given_at xs ps i cc in (more.0, ap (λ n. suc n) more.1)

-- and it is legal
pub legal_at : (xs : List ChartImage) (ps : List Chart) (i : ℕ) (k : Chart)
    → map (λ (x : ChartImage). legal_chart_of x.text) xs ≡ map Ok ps → slice_get ps i ≡ Some k → legal_fault k ≡ None
legal_at [] [] i k h e = absurd (cc)
legal_at [] (p ∷ ps) i k h e = absurd (cc)
legal_at (x ∷ xs) [] i k h e = absurd (cc)
legal_at (x ∷ xs) (p ∷ ps) zero k h e = legal_of (chart_of expr_of x.text) k cc
legal_at (x ∷ xs) (p ∷ ps) (suc i) k h e =
    let rest : map (λ (x : ChartImage). legal_chart_of x.text) xs ≡ map Ok ps = cc in
    let there : slice_get ps i ≡ Some k = e in
    legal_at xs ps i k rest there

-- a place that is found is one of the list
pub place_within : (p : ChartImage → Bool) (xs : List ChartImage) (i : ℕ) → position p xs ≡ Some i → i < length xs
place_within p xs i h = by (nat_lt (position_or_len p xs) (length xs)) refl h where
  by : (v : Bool) → nat_lt (position_or_len p xs) (length xs) ≡ v → cond v (Some (position_or_len p xs)) None ≡ Some i → i < length xs
  by true e h = let same : position_or_len p xs ≡ i = cc in grind (arith, nat_tests)
  by false e h = absurd (cc)
