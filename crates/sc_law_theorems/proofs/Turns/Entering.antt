-- States that are entered join the configuration, none of whose invokes runs.
use Rattle.std.proofs.Common.{◌≡◌, ℕ, ◌==◌, ◌&&◌, ◌||◌, not, Bool, true, false, Option, Some, None, unwrap_or, List, [], ◌∷◌, flat_map, refl, arith, ap, sym, subst, ◌∙◌}
use Rattle.std.specs.List.{AllByRecursion as AllOf, list_any}
use Rattle.std.proofs.lemmas.Bool.Decides.{nat_tests}
use Rattle.sc_base.specs.Ascending.{contains, with_number}
use Rattle.sc_base.specs.Folds.{each}
use Rattle.sc_types.specs.declared.chart.Chart.{Chart}
use Rattle.sc_types.specs.declared.chart.Node.{Node}
use Rattle.sc_types.specs.declared.chart.Tag.TheVariants as tag
use Rattle.sc_types.specs.declared.event.Data.{Data}
use Rattle.sc_types.specs.declared.event.Data.TheVariants.{Absent}
use Rattle.sc_types.specs.declared.session.Invoked.{Invoked}
use Rattle.sc_law.specs.Tree.{root, state_count, state_element}
use Rattle.sc_law.specs.Configurations.{parent_of}
use Rattle.sc_law.specs.Kinds.{is_final, is_parallel}
use Rattle.sc_law.specs.Entry.{EntryTriple}
use Rattle.sc_law.specs.Runs.{Running, enqueue}
use Rattle.sc_law.specs.Data.{data_of, initialise, is_late}
use Rattle.sc_law.specs.Sending.{children_of, payload_from}
use Rattle.sc_law.specs.Content.{run_blocks}
use Rattle.sc_law.specs.Invokes.{invokes_of}
use Rattle.sc_law.specs.Leaving.{blocks_of}
use Rattle.sc_law.specs.Entering.{done_data, done_event, enter_state, initial_of, is_in_final, join, late_data, noted_of, stop, tell_done, tell_parallel, tell_parent, told, told_parent}
use Rattle.sc_law.specs.Fitting.{is_own_invoke}
use Rattle.sc_sets.proofs.Union.Below.{all-of-map, all-of-true}
use Rattle.sc_law_theorems.proofs.Turns.Content.{blocks-move}
use Rattle.sc_law_theorems.proofs.Turns.Data.{initialise-moves}
use Rattle.sc_law_theorems.proofs.Turns.FitsLists.{FitsLists, is_state, lists-keep}
use Rattle.sc_law_theorems.proofs.Turns.Keeps.{Keeps, Moves, each-moves, env-same, keeps-cond, keeps-enqueue, keeps-same, keeps-then}
use Rattle.sc_law_theorems.proofs.Turns.Lists.{all-two, both, contains-with, flip-false, or-later, set-test, set-with, together, true-of-all}
use Rattle.sc_law_theorems.proofs.Turns.Sending.{payload-keeps}

-- ---- what follows once a state has joined

late-moves : (c : Chart) (s : ℕ) (was : Bool) → Moves (late_data c s was)
late-moves c s was r =
    keeps-cond (is_late c && not was) (each (initialise []) (data_of (state_element c s))) (λ same. same) r
    (each-moves (initialise []) (data_of (state_element c s)) (initialise-moves []) r) (keeps-same r)

-- the data of a final state only tell errors
done-keeps : (c : Chart) (s : ℕ) (r : Running) → Keeps r (done_data c s r).1
done-keeps c s r = by (payload_from [] (flat_map children_of (blocks_of tag.DoneData c s)) r) refl where
  by : (o : Option (Data × Running)) → payload_from [] (flat_map children_of (blocks_of tag.DoneData c s)) r ≡ o
      → Keeps r (unwrap_or o (Absent, r)).1
  by None e = keeps-same r
  by (Some got) e = payload-keeps [] (flat_map children_of (blocks_of tag.DoneData c s)) r got e

parallel-moves : (c : Chart) (s : ℕ) → Moves (tell_parallel c s)
parallel-moves c s r =
    keeps-cond (is_parallel c s && is_in_final c r.env.configuration (state_count c) s)
    (enqueue (done_event c s Absent)) (λ others. others) r
    (keeps-enqueue (done_event c s Absent) r) (keeps-same r)

told-keeps : (c : Chart) (s : ℕ) (got : Data × Running) → Keeps got.1 (told_parent c s got)
told-keeps c s got =
    keeps-then got.1 (enqueue (done_event c s got.0) got.1) (told_parent c s got)
    (keeps-enqueue (done_event c s got.0) got.1)
    (parallel-moves c (parent_of c s) (enqueue (done_event c s got.0) got.1))

parent-moves : (c : Chart) (s : ℕ) → Moves (tell_parent c s)
parent-moves c s r =
    keeps-then r (done_data c s r).1 (tell_parent c s r) (done-keeps c s r)
    (told-keeps c (parent_of c s) (done_data c s r))

stop-moves : Moves stop
stop-moves r = record { env = env-same r.env; entered = refl; invokes = refl; todo = refl }

told-moves : (c : Chart) (s : ℕ) → Moves (told c s)
told-moves c s r =
    keeps-cond (is_final c s) (tell_done c s) (λ same. same) r
    (keeps-cond (parent_of c s == root c) stop (tell_parent c s) r (stop-moves r) (parent-moves c s r)) (keeps-same r)

-- what follows once a state has joined
state-keeps : (c : Chart) (e : EntryTriple) (s : ℕ) (r : Running) → Keeps (join s r) (enter_state c e s r)
unfolding enter_state
state-keeps c e s r =
    let filled = late_data c s (contains r.entered s) (join s r) in
    let entry = run_blocks (blocks_of tag.OnEntry c s) filled in
    let initial = run_blocks (initial_of c e s) entry in
    let noted = run_blocks (noted_of c e s) initial in
    keeps-then (join s r) filled (told c s noted) (late-moves c s (contains r.entered s) (join s r))
    (keeps-then filled entry (told c s noted) (blocks-move (blocks_of tag.OnEntry c s) filled)
    (keeps-then entry initial (told c s noted) (blocks-move (initial_of c e s) entry)
    (keeps-then initial noted (told c s noted) (blocks-move (noted_of c e s) initial) (told-moves c s noted))))

-- ---- one state joins

-- no invoke of the state runs
abbrev pub IsFree : List Invoked → ℕ → Type 0
IsFree is s = AllOf (λ (i : Invoked). (i.state == s) ≡ false) is

none-more : (v w : Bool) → v ≡ false → not w ≡ true → not (v || w) ≡ true
none-more true w h i = absurd (cc)
none-more false w h i = i

-- a state of which no invoke runs joins
joined-lists : (c : Chart) (s : ℕ) (r : Running) → FitsLists c r → is_state c s ≡ true → IsFree r.invokes s
    → FitsLists c (join s r)
joined-lists c s r lists state free = record {
  active = set-with (is_state c) s r.env.configuration lists.active state;
  entered = set-with (is_state c) s r.entered lists.entered state;
  invokes = true-of-all (is_own_invoke c (with_number s r.env.configuration)) r.invokes
      (all-of-map (λ (i : Invoked). is_own_invoke c r.env.configuration i ≡ true)
      (λ i. is_own_invoke c (with_number s r.env.configuration) i ≡ true) r.invokes own
      (all-of-true (is_own_invoke c r.env.configuration) r.invokes lists.invokes));
  no_invoke_twice = lists.no_invoke_twice;
  to_start = set-with (contains (with_number s r.env.configuration)) s r.todo
      (set-test (contains r.env.configuration) (contains (with_number s r.env.configuration)) r.todo
      (λ t h i. grown t i) lists.to_start)
      (contains-with s r.env.configuration s ∙ here);
  none_started = true-of-all (λ (i : Invoked). not (contains (with_number s r.todo) i.state)) r.invokes
      (all-two (λ i. (i.state == s) ≡ false) (λ i. not (contains r.todo i.state) ≡ true)
      (λ i. not (contains (with_number s r.todo) i.state) ≡ true) r.invokes
      (λ i other none. ap not (contains-with s r.todo i.state)
      ∙ none-more (s == i.state) (contains r.todo i.state) (flip-false i.state s other) none)
      free (all-of-true (λ (i : Invoked). not (contains r.todo i.state)) r.invokes lists.none_started));
  no_name_twice = lists.no_name_twice;
  declared = lists.declared;
} where
  grown : (t : ℕ) → contains r.env.configuration t ≡ true → contains (with_number s r.env.configuration) t ≡ true
  grown t h = contains-with s r.env.configuration t ∙ or-later (s == t) (contains r.env.configuration t) h

  here : ((s == s) || contains r.env.configuration s) ≡ true
  here = let hit : (s == s) ≡ true = grind (arith, nat_tests) in ap (λ v. v || contains r.env.configuration s) hit

  own : (i : Invoked) → is_own_invoke c r.env.configuration i ≡ true
      → is_own_invoke c (with_number s r.env.configuration) i ≡ true
  own i h =
      let t = both (contains r.env.configuration i.state)
      (list_any (λ (p : ℕ × Node). p.0 == i.place) (invokes_of c i.state)) h in
      together (contains (with_number s r.env.configuration) i.state)
      (list_any (λ (p : ℕ × Node). p.0 == i.place) (invokes_of c i.state))
      (grown i.state t.0) t.1

-- ---- one state after another

state-lists : (c : Chart) (e : EntryTriple) (s : ℕ) (r : Running) → FitsLists c r → is_state c s ≡ true
    → IsFree r.invokes s
    → FitsLists c (enter_state c e s r)
state-lists c e s r lists state free =
    lists-keep c (join s r) (enter_state c e s r) (joined-lists c s r lists state free) (state-keeps c e s r)

-- states of which no invoke runs enter one after another
pub each-enters : (c : Chart) (e : EntryTriple) (ss : List ℕ) (r : Running) → FitsLists c r
    → AllOf (λ s. is_state c s ≡ true) ss
    → AllOf (IsFree r.invokes) ss → FitsLists c (each (enter_state c e) ss r)
each-enters c e [] r lists states free = lists
each-enters c e (s ∷ ss) r lists states free =
    each-enters c e ss (enter_state c e s r) (state-lists c e s r lists states.0 free.0) states.1
    (subst (λ is. AllOf (IsFree is) ss) (sym (state-keeps c e s r).invokes) free.1)

or-middle : (u v w : Bool) → ((u || v) || w) ≡ (v || (u || w))
or-middle true true w = refl
or-middle true false w = refl
or-middle false v w = refl

or-none : (v : Bool) → v ≡ (v || false)
or-none true = refl
or-none false = refl

-- they are active then, with those before
pub each-joined : (c : Chart) (e : EntryTriple) (ss : List ℕ) (r : Running) (t : ℕ)
    → contains (each (enter_state c e) ss r).env.configuration t ≡ (contains r.env.configuration t || contains ss t)
each-joined c e [] r t = or-none (contains r.env.configuration t)
each-joined c e (s ∷ ss) r t =
    each-joined c e ss (enter_state c e s r) t
    ∙ ap (λ l. contains l t || contains ss t) (state-keeps c e s r).env.configuration
    ∙ ap (λ v. v || contains ss t) (contains-with s r.env.configuration t)
    ∙ or-middle (s == t) (contains r.env.configuration t) (contains ss t)
