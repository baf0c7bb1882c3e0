-- A turn that leaves its session running leaves one that fits its chart.
use Rattle.std.proofs.Common.{◌≡◌, ℕ, ◌-◌, ◌||◌, not, Bool, true, false, zero, suc, Option, None, Some, List, [], ◌∷◌, refl, ap, sym, subst, ◌∙◌}
use Rattle.std.specs.List.{IsDistinct}
use Rattle.std.specs.List.{AllByRecursion as AllOf, list_all}
use Rattle.std.specs.Str.{bytes_eq}
use Rattle.std.proofs.lemmas.List.Elements.{All-nil}
use Rattle.sc_base.specs.Ascending.{contains}
use Rattle.sc_types.specs.declared.chart.Chart.{Chart}
use Rattle.sc_types.specs.declared.event.Event.{Event}
use Rattle.sc_types.specs.declared.session.Cue.{Cue}
use Rattle.sc_types.specs.declared.session.Cue.TheVariants.{Cancel, External, Fresh, Resume}
use Rattle.sc_types.specs.declared.session.Invoked.{Invoked}
use Rattle.sc_types.specs.declared.session.Phase.TheVariants as phase
use Rattle.sc_types.specs.declared.session.SessionState.{SessionState}
use Rattle.sc_law.specs.Legality.{legal_fault}
use Rattle.sc_law.specs.Entry.{first_entry}
use Rattle.sc_law.specs.Runs.{RunState, Running, fresh_state, with_running}
use Rattle.sc_law.specs.Data.{first_data}
use Rattle.sc_law.specs.Invokes.{finalize, start_invokes}
use Rattle.sc_law.specs.Selection.{select}
use Rattle.sc_law.specs.Turn.{Look, after, begin, bind, external, finish, finish_rested, finish_settled, go_on, look, look_again, next, next_of, none, of_queue, of_taken, or_rested, out_of_rounds, round, round_limit, settle, start, take, take_event, turn}
use Rattle.sc_law.specs.Fitting.{Fits, FitsRun, HasCue, IsRecorded, data_elements, fresh, has_datum, is_own_invoke, is_same_element, runs}
use Rattle.sc_sets.specs.Union.{AreKept}
use Rattle.sc_sets.proofs.Union.Below.{all-of-true}
use Rattle.sc_law_theorems.proofs.Turns.Data.{first-moves}
use Rattle.sc_law_theorems.proofs.Turns.Declared.{first-declared}
use Rattle.sc_law_theorems.proofs.Turns.Entering.{IsFree, each-enters, each-joined}
use Rattle.sc_law_theorems.proofs.Turns.FitsLists.{FitsHistories, FitsLists, fits-keep, fits-of, is_state}
use Rattle.sc_law_theorems.proofs.Turns.Invokes.{finalize-fits, start_invokes-fits}
use Rattle.sc_law_theorems.proofs.Turns.Keeps.{Keeps, env-same, names_in}
use Rattle.sc_law_theorems.proofs.Turns.Laws.{Laws}
use Rattle.sc_law_theorems.proofs.Turns.Lists.{distinct-none, is_set_of}
use Rattle.sc_law_theorems.proofs.Turns.Micro.{microstep-fits}
use Rattle.sc_law_theorems.proofs.Turns.Selecting.{select-fits, select-next}

-- ---- rounds

bind-keeps : (e : Event) (x : RunState) → Keeps x.running (bind e x).running
bind-keeps e x = record {
  env = record { configuration = refl; distinct = λ d. d; declared = λ name h. h };
  entered = refl;
  invokes = refl;
  todo = refl;
}

-- an event becomes `_event`
pub bind-fits : (c : Chart) (e : Event) (x : RunState) → FitsRun c x → FitsRun c (bind e x)
bind-fits c e x fits = fits-keep c x (bind e x).running fits (bind-keeps e x)

-- the microstep of what selection keeps
pub take-fits : (c : Chart) (event : Option (List ℕ)) (x : RunState) → legal_fault c ≡ None → Laws c → FitsRun c x
    → FitsRun c (take c (select c event x))
take-fits c event x legal laws fits =
    microstep-fits c (select c event x).transitions (select c event x).run laws (select-fits c event x legal fits)
    (select-next c event x legal fits)

event-fits : (c : Chart) (e : Event) (x : RunState) → legal_fault c ≡ None → Laws c → FitsRun c x
    → FitsRun c (take_event c e x)
event-fits c e x legal laws fits = take-fits c (Some e.name) (bind e x) legal laws (bind-fits c e x fits)

-- what comes next fits, as the run before it does
abbrev pub FitsLook : Chart → Look → Type 0
FitsLook c (none x) = FitsRun c x
FitsLook c (round x y) = FitsRun c x × FitsRun c y

queue-keeps : (es : List Event) (r : Running) → Keeps r (record r { internal = es })
queue-keeps es r = record { env = env-same r.env; entered = refl; invokes = refl; todo = refl }

queue-fits : (c : Chart) (es : List Event) (x : RunState) → legal_fault c ≡ None → Laws c → FitsRun c x
    → FitsLook c (of_queue c es x)
queue-fits c [] x legal laws fits = fits
queue-fits c (e ∷ es) x legal laws fits = (
  fits,
  event-fits c e (with_running (record x.running { internal = es }) x) legal laws
      (fits-keep c x (record x.running { internal = es }) fits (queue-keeps es x.running)),
)

taken-fits : (c : Chart) (ts : List ℕ) (x : RunState) → legal_fault c ≡ None → Laws c → FitsRun c x
    → AreKept c x.histories x.running.env.configuration ts → FitsLook c (of_taken c ts x)
taken-fits c [] x legal laws fits kept = queue-fits c x.running.internal x legal laws fits
taken-fits c (t ∷ ts) x legal laws fits kept = (fits, microstep-fits c (t ∷ ts) x laws fits kept)

look-fits : (c : Chart) (x : RunState) → legal_fault c ≡ None → Laws c → FitsRun c x → FitsLook c (look c x)
look-fits c x legal laws fits =
    taken-fits c (select c None x).transitions (select c None x).run legal laws (select-fits c None x legal fits)
    (select-next c None x legal fits)

again-fits : (c : Chart) (es : List Event) (x : RunState) → legal_fault c ≡ None → Laws c → FitsRun c x
    → FitsLook c (look_again c es x)
again-fits c [] x legal laws fits = fits
again-fits c (e ∷ es) x legal laws fits = look-fits c x legal laws fits

or-rested : (c : Chart) (l : Look) → legal_fault c ≡ None → Laws c → FitsLook c l → FitsLook c (or_rested c l)
or-rested c (none x) legal laws fits =
    again-fits c (start_invokes c x).running.internal (start_invokes c x) legal laws (start_invokes-fits c x fits)
or-rested c (round x y) legal laws fits = fits

next-of : (c : Chart) (stopped : Bool) (x : RunState) → legal_fault c ≡ None → Laws c → FitsRun c x
    → FitsLook c (next_of c stopped x)
next-of c true x legal laws fits = fits
next-of c false x legal laws fits = or-rested c (look c x) legal laws (look-fits c x legal laws fits)

-- what comes next
pub next-fits : (c : Chart) (x : RunState) → legal_fault c ≡ None → Laws c → FitsRun c x → FitsLook c (next c x)
unfolding next
next-fits c x legal laws fits = next-of c x.running.stopped x legal laws fits

out-fits : (c : Chart) (l : Look) → FitsLook c l → FitsRun c (out_of_rounds l).1
out-fits c (none x) fits = fits
out-fits c (round x y) fits = fits.0

on-fits : (c : Chart) (more : RunState → Bool × RunState) (l : Look)
    → ((x : RunState) → FitsRun c x → FitsRun c (more x).1)
    → FitsLook c l → FitsRun c (go_on more l).1
on-fits c more (none x) so fits = fits
on-fits c more (round x y) so fits = so y fits.1

-- rounds leave a run that fits
pub settle-fits : (c : Chart) (rounds : ℕ) (x : RunState) → legal_fault c ≡ None → Laws c → FitsRun c x
    → FitsRun c (settle c rounds x).1
unfolding settle
settle-fits c zero x legal laws fits = out-fits c (next c x) (next-fits c x legal laws fits)
settle-fits c (suc rounds) x legal laws fits =
    on-fits c (settle c rounds) (next c x) (λ y h. settle-fits c rounds y legal laws h) (next-fits c x legal laws fits)

-- ---- the start

-- a run without states, invokes and values
record HasNothing (r : Running) : Type 0 where
  pub configuration : r.env.configuration ≡ []
  pub entered : r.entered ≡ []
  pub invokes : r.invokes ≡ []
  pub todo : r.todo ≡ []
  pub values : r.env.values ≡ []

begun-lists : (c : Chart) (r q : Running) → HasNothing r → Keeps r q
    → list_all (has_datum q.env.values) (data_elements c) ≡ true → FitsLists c q
begun-lists c r q nothing keeps declared = record {
  active = subst (λ ss. is_set_of (is_state c) ss ≡ true) (sym (keeps.env.configuration ∙ nothing.configuration)) refl;
  entered = subst (λ ss. is_set_of (is_state c) ss ≡ true) (sym (keeps.entered ∙ nothing.entered)) refl;
  invokes = subst (λ is. list_all (is_own_invoke c q.env.configuration) is ≡ true)
      (sym (keeps.invokes ∙ nothing.invokes)) refl;
  no_invoke_twice =
      subst (IsDistinct is_same_element) (sym (keeps.invokes ∙ nothing.invokes)) (distinct-none is_same_element);
  to_start = subst (λ ts. is_set_of (contains q.env.configuration) ts ≡ true) (sym (keeps.todo ∙ nothing.todo)) refl;
  none_started =
      subst (λ is. list_all (λ (i : Invoked). not (contains q.todo i.state)) is ≡ true)
      (sym (keeps.invokes ∙ nothing.invokes)) refl;
  no_name_twice =
      keeps.env.distinct (subst (λ v. IsDistinct bytes_eq (names_in v)) (sym nothing.values) (distinct-none bytes_eq));
  declared = declared;
}

free-of-none : (ss : List ℕ) → AllOf (IsFree []) ss
free-of-none [] = tt
free-of-none (s ∷ ss) = (tt, free-of-none ss)

abbrev first_run : Chart → SessionState → Running
first_run c before = first_data c before.params (begin c before).running

start-from : (c : Chart) (before : SessionState) → legal_fault c ≡ None → Laws c → HasNothing (begin c before).running
    → before.histories ≡ [] → FitsRun c (start c before (begin c before))
start-from c before legal laws nothing new =
    fits-of c (start c before (begin c before))
    (each-enters c (first_entry c) (first_entry c).states (first_run c before) lists
    (all-of-true (is_state c) (first_entry c).states laws.first_states)
    (subst (λ is. AllOf (IsFree is) (first_entry c).states) (sym (keeps.invokes ∙ nothing.invokes))
    (free-of-none (first_entry c).states)))
    (subst (FitsHistories c) (sym new) (record { in_order = refl; kept = refl; recorded = All-nil (IsRecorded c) }))
    (laws.legal_first (start c before (begin c before)).running.env.configuration members)
  where
    keeps : Keeps (begin c before).running (first_run c before)
    keeps = first-moves c before.params (begin c before).running

    lists : FitsLists c (first_run c before)
    lists = begun-lists c (begin c before).running (first_run c before) nothing keeps
        (first-declared c before.params (begin c before).running legal)

    members : (t : ℕ)
        → contains (start c before (begin c before)).running.env.configuration t ≡ contains (first_entry c).states t
    members t = each-joined c (first_entry c) (first_entry c).states (first_run c before) t
        ∙ ap (λ l. contains l t || contains (first_entry c).states t) (keeps.env.configuration ∙ nothing.configuration)

-- the run of a session that starts fits, once the document was entered
pub start-fits : (c : Chart) (before : SessionState) → legal_fault c ≡ None → Laws c
    → before ≡ fresh_state before.session before.chart before.params → FitsRun c (start c before (begin c before))
start-fits c before legal laws is = start-from c before legal laws (record {
  configuration = ap (λ (s : SessionState). s.configuration) is;
  entered = ap (λ (s : SessionState). s.entered) is;
  invokes = ap (λ (s : SessionState). s.invokes) is;
  todo = refl;
  values = ap (λ (s : SessionState). s.values) is;
}) (ap (λ (s : SessionState). s.histories) is)

-- the round of an external event
pub external-fits : (c : Chart) (e : Event) (x : RunState) → legal_fault c ≡ None → Laws c → FitsRun c x
    → FitsRun c (external c e x)
external-fits c e x legal laws fits =
    take-fits c (Some e.name) (with_running (finalize c e (bind e x).running) (bind e x)) legal laws
    (finalize-fits c e (bind e x) (bind-fits c e x fits))

-- ---- the turn

-- nothing is left to be started
none-todo : (is : List Invoked) → list_all (λ (i : Invoked). not (contains [] i.state)) is ≡ true
none-todo [] = refl
none-todo (i ∷ is) = none-todo is

after-fits : (c : Chart) (before : SessionState) (x : RunState) → FitsRun c x
    → Fits c (after before phase.Running x).after
after-fits c before x fits = runs (record {
  running = refl;
  fits = record {
    legal = fits.legal;
    active = fits.active;
    entered = fits.entered;
    in_order = fits.in_order;
    kept = fits.kept;
    recorded = fits.recorded;
    invokes = fits.invokes;
    no_invoke_twice = fits.no_invoke_twice;
    to_start = refl;
    none_started = none-todo x.running.invokes;
    no_name_twice = fits.no_name_twice;
    declared = fits.declared;
  };
})

rested-fits : (c : Chart) (before : SessionState) (stopped : Bool) (x : RunState) → FitsRun c x
    → (finish_rested c before stopped x).after.phase ≡ phase.Running → Fits c (finish_rested c before stopped x).after
rested-fits c before true x fits h = absurd (cc)
rested-fits c before false x fits h = after-fits c before x fits

settled-fits : (c : Chart) (before : SessionState) (rests : Bool) (x : RunState) → FitsRun c x
    → (finish_settled c before rests x).after.phase ≡ phase.Running → Fits c (finish_settled c before rests x).after
settled-fits c before true x fits h = rested-fits c before x.running.stopped x fits h
settled-fits c before false x fits h = absurd (cc)

-- a run that fits, after its rounds
finish-fits : (c : Chart) (before : SessionState) (rounds : ℕ) (x : RunState) → legal_fault c ≡ None → Laws c
    → FitsRun c x
    → (finish c before (settle c rounds x)).after.phase ≡ phase.Running
    → Fits c (finish c before (settle c rounds x)).after
finish-fits c before rounds x legal laws fits h =
    settled-fits c before (settle c rounds x).0 (settle c rounds x).1 (settle-fits c rounds x legal laws fits) h

not-both : (s : SessionState) → s.phase ≡ phase.Fresh → s.phase ≡ phase.Running → ⊥
not-both s a b = cc

-- the run of a session that waits for a cue but its first
running-fits : (c : Chart) (s : SessionState) → Fits c s → s.phase ≡ phase.Running → FitsRun c (begin c s)
running-fits c s (fresh is) running = absurd (not-both s (ap (λ (t : SessionState). t.phase) is) running)
running-fits c s (runs is) running = is.fits

fresh-is : (c : Chart) (s : SessionState) → Fits c s → s.phase ≡ phase.Fresh
    → s ≡ fresh_state s.session s.chart s.params
fresh-is c s (fresh is) waits = is
fresh-is c s (runs is) waits = absurd (not-both s waits is.running)

-- a turn that leaves its session running leaves one that fits its chart
pub turn-fits : (c : Chart) (before : SessionState) (cue : Cue) → legal_fault c ≡ None → Laws c → Fits c before
    → HasCue before cue
    → (turn c before cue).after.phase ≡ phase.Running → Fits c (turn c before cue).after
unfolding turn
turn-fits c before Fresh legal laws fits has h =
    finish-fits c before (round_limit c) (start c before (begin c before)) legal laws
    (start-fits c before legal laws (fresh-is c before fits has)) h
turn-fits c before Resume legal laws fits has h =
    finish-fits c before (round_limit c) (begin c before) legal laws (running-fits c before fits has.0) h
turn-fits c before Cancel legal laws fits has h = absurd (cc)
turn-fits c before (External e) legal laws fits has h =
    finish-fits c before (round_limit c - 1) (external c e (begin c before)) legal laws
    (external-fits c e (begin c before) legal laws (running-fits c before fits has.0)) h
