-- States that are exited leave the configuration, with their invokes and what is to be started.
use Rattle.std.proofs.Common.{◌≡◌, ℕ, ◌==◌, ◌&&◌, ◌||◌, not, Bool, true, false, List, [], ◌∷◌, filter, reverse, refl, arith, ap, sym, subst, ◌∙◌}
use Rattle.std.specs.List.{IsDistinct}
use Rattle.std.specs.List.{list_all, list_any}
use Rattle.std.specs.Str.{bytes_eq}
use Rattle.std.proofs.lemmas.Bool.Decides.{nat_tests}
use Rattle.sc_base.specs.Ascending.{contains, without}
use Rattle.sc_base.specs.Folds.{each}
use Rattle.sc_types.specs.declared.chart.Chart.{Chart}
use Rattle.sc_types.specs.declared.chart.Node.{Node}
use Rattle.sc_types.specs.declared.chart.Tag.TheVariants as tag
use Rattle.sc_types.specs.declared.effect.Effect.TheVariants.{CancelChild}
use Rattle.sc_types.specs.declared.session.Invoked.{Invoked}
use Rattle.sc_law.specs.Records.{record_all}
use Rattle.sc_law.specs.Runs.{RunState, Running, with_effect}
use Rattle.sc_law.specs.Evaluation.{is_pair_named}
use Rattle.sc_law.specs.Content.{run_blocks}
use Rattle.sc_law.specs.Invokes.{invokes_of}
use Rattle.sc_law.specs.Leaving.{blocks_of, exit_states, is_of, leave}
use Rattle.sc_law.specs.Fitting.{is_own_invoke, is_same_element}
use Rattle.sc_sets.proofs.Union.Below.{all-of-map, all-of-true}
use Rattle.sc_sets.proofs.Union.Forks.{filter-hold}
use Rattle.sc_law_theorems.proofs.Turns.Content.{blocks-move}
use Rattle.sc_law_theorems.proofs.Turns.FitsLists.{FitsLists, declared-keeps, is_state}
use Rattle.sc_law_theorems.proofs.Turns.Keeps.{Keeps, each-moves, keeps-effect, names_in}
use Rattle.sc_law_theorems.proofs.Turns.Lists.{all-filter, both, contains-reverse, contains-without, distinct-filter, false-by, flip-false, is_set_of, not-true, or-later, set-filter, set-test, together, true-of-all}

-- what a state that is exited takes along
record IsLeft (s : ℕ) (r q : Running) : Type 0 where
  pub configuration : q.env.configuration ≡ without (s ∷ []) r.env.configuration
  pub entered : q.entered ≡ r.entered
  pub invokes : q.invokes ≡ filter (λ i. not (is_of s i)) r.invokes
  pub todo : q.todo ≡ r.todo
  pub distinct : IsDistinct bytes_eq (names_in r.env.values) → IsDistinct bytes_eq (names_in q.env.values)
  pub declared : (name : List ℕ) → list_any (is_pair_named name) r.env.values ≡ true
      → list_any (is_pair_named name) q.env.values ≡ true

-- what leaving a state does
leave-is : (c : Chart) (s : ℕ) (r : Running) → IsLeft s r (leave c s r)
unfolding leave
leave-is c s r =
    let ran : Keeps r (run_blocks (blocks_of tag.OnExit c s) r) = blocks-move (blocks_of tag.OnExit c s) r in
    let told = each-moves (λ (i : Invoked). with_effect (CancelChild i.child))
    (filter (is_of s) (run_blocks (blocks_of tag.OnExit c s) r).invokes) (λ i. keeps-effect (CancelChild i.child))
    (run_blocks (blocks_of tag.OnExit c s) r) in
    record {
      configuration = ap (without (s ∷ [])) (told.env.configuration ∙ ran.env.configuration);
      entered = told.entered ∙ ran.entered;
      invokes = ap (filter (λ i. not (is_of s i))) ran.invokes;
      todo = told.todo ∙ ran.todo;
      distinct = λ d. told.env.distinct (ran.env.distinct d);
      declared = λ name h. told.env.declared name (ran.env.declared name h);
    }

and-true : (u v : Bool) → u ≡ true → v ≡ false → (u && not (v || false)) ≡ true
and-true true true h i = absurd (cc)
and-true true false h i = refl
and-true false v h i = absurd (cc)

-- a member that is not taken away
still : (ss : List ℕ) (s t : ℕ) → contains ss t ≡ true → (s == t) ≡ false → contains (without (s ∷ []) ss) t ≡ true
still ss s t h other = contains-without (s ∷ []) ss t ∙ and-true (contains ss t) (s == t) h other

still-own : (c : Chart) (ss : List ℕ) (s : ℕ) (i : Invoked) → not (is_of s i) ≡ true → is_own_invoke c ss i ≡ true
    → is_own_invoke c (without (s ∷ []) ss) i ≡ true
still-own c ss s i other own =
    let t = both (contains ss i.state) (list_any (λ (p : ℕ × Node). p.0 == i.place) (invokes_of c i.state)) own in
    together (contains (without (s ∷ []) ss) i.state)
    (list_any (λ (p : ℕ × Node). p.0 == i.place) (invokes_of c i.state))
    (still ss s i.state t.0 (flip-false i.state s (not-true (is_of s i) other))) t.1

left-lists : (c : Chart) (s : ℕ) (r q : Running) → FitsLists c r → contains r.todo s ≡ false → IsLeft s r q
    → FitsLists c q
left-lists c s r q lists free left = record {
  active = subst (λ ss. is_set_of (is_state c) ss ≡ true) (sym left.configuration)
      (set-filter (is_state c) (λ n. not (contains (s ∷ []) n)) r.env.configuration lists.active);
  entered = subst (λ ss. is_set_of (is_state c) ss ≡ true) (sym left.entered) lists.entered;
  invokes = subst (λ ss. list_all (is_own_invoke c ss) q.invokes ≡ true) (sym left.configuration)
      (subst (λ is. list_all (is_own_invoke c (without (s ∷ []) r.env.configuration)) is ≡ true)
      (sym left.invokes) own);
  no_invoke_twice = subst (IsDistinct is_same_element) (sym left.invokes)
      (distinct-filter is_same_element (λ i. not (is_of s i)) r.invokes lists.no_invoke_twice);
  to_start = subst (λ ss. is_set_of (contains ss) q.todo ≡ true) (sym left.configuration)
      (subst (λ ts. is_set_of (contains (without (s ∷ []) r.env.configuration)) ts ≡ true) (sym left.todo) start);
  none_started = subst (λ ts. list_all (λ (i : Invoked). not (contains ts i.state)) q.invokes ≡ true) (sym left.todo)
      (subst (λ is. list_all (λ (i : Invoked). not (contains r.todo i.state)) is ≡ true) (sym left.invokes) none);
  no_name_twice = left.distinct lists.no_name_twice;
  declared = declared-keeps c r.env.values q.env.values left.declared lists.declared;
} where
  own : list_all (is_own_invoke c (without (s ∷ []) r.env.configuration))
      (filter (λ i. not (is_of s i)) r.invokes) ≡ true
  own = true-of-all (is_own_invoke c (without (s ∷ []) r.env.configuration)) (filter (λ i. not (is_of s i)) r.invokes)
      (all-of-map (λ (i : Invoked). (not (is_of s i) ≡ true) × (is_own_invoke c r.env.configuration i ≡ true))
      (λ i. is_own_invoke c (without (s ∷ []) r.env.configuration) i ≡ true) (filter (λ i. not (is_of s i)) r.invokes)
      (λ i t. still-own c r.env.configuration s i t.0 t.1)
      (filter-hold (λ (i : Invoked). is_own_invoke c r.env.configuration i ≡ true) (λ i. not (is_of s i)) r.invokes
      (all-of-true (is_own_invoke c r.env.configuration) r.invokes lists.invokes)))

  start : is_set_of (contains (without (s ∷ []) r.env.configuration)) r.todo ≡ true
  start = set-test (contains r.env.configuration) (contains (without (s ∷ []) r.env.configuration)) r.todo
      (λ t h i. still r.env.configuration s t i (false-by (s == t)
      (λ e. (let same : s ≡ t = grind (arith, nat_tests) in
      let yes : contains r.todo s ≡ true = ap (contains r.todo) same ∙ h in cc))))
      lists.to_start

  none : list_all (λ (i : Invoked). not (contains r.todo i.state)) (filter (λ i. not (is_of s i)) r.invokes) ≡ true
  none = true-of-all (λ (i : Invoked). not (contains r.todo i.state)) (filter (λ i. not (is_of s i)) r.invokes)
      (all-filter (λ (i : Invoked). not (contains r.todo i.state) ≡ true) (λ i. not (is_of s i)) r.invokes
      (all-of-true (λ (i : Invoked). not (contains r.todo i.state)) r.invokes lists.none_started))

-- ---- one state after another

gone-both : (u v w : Bool) → ((u && not (v || false)) && not w) ≡ (u && not (v || w))
gone-both true true w = refl
gone-both true false w = refl
gone-both false v w = refl

-- what is left of the configuration
each-members : (c : Chart) (ss : List ℕ) (r : Running) (t : ℕ)
    → contains (each (leave c) ss r).env.configuration t ≡ (contains r.env.configuration t && not (contains ss t))
each-members c [] r t = by (contains r.env.configuration t) where
  by : (v : Bool) → v ≡ (v && true)
  by true = refl
  by false = refl
each-members c (s ∷ ss) r t =
    each-members c ss (leave c s r) t
    ∙ ap (λ l. contains l t && not (contains ss t)) (leave-is c s r).configuration
    ∙ ap (λ v. v && not (contains ss t)) (contains-without (s ∷ []) r.env.configuration t)
    ∙ gone-both (contains r.env.configuration t) (s == t) (contains ss t)

-- the lists still fit, where none of these states is to be started
each-lists : (c : Chart) (ss : List ℕ) (r : Running) → FitsLists c r
    → ((t : ℕ) → contains ss t ≡ true → contains r.todo t ≡ false)
    → FitsLists c (each (leave c) ss r)
each-lists c [] r lists free = lists
each-lists c (s ∷ ss) r lists free =
    each-lists c ss (leave c s r) (left-lists c s r (leave c s r) lists (free s here) (leave-is c s r))
    (λ t h. ap (λ l. contains l t) (leave-is c s r).todo ∙ free t (or-later (s == t) (contains ss t) h))
  where
    here : contains (s ∷ ss) s ≡ true
    here = let hit : (s == s) ≡ true = grind (arith, nat_tests) in ap (λ v. v || contains ss s) hit

-- ---- the exit

not-gone : (v w : Bool) → w ≡ true → (v && not w) ≡ false
not-gone true true h = refl
not-gone true false h = absurd (cc)
not-gone false w h = refl

fewer : (v w : Bool) → not v ≡ true → not (v && w) ≡ true
fewer true w h = absurd (cc)
fewer false w h = refl

abbrev less_todo : List ℕ → Running → Running
less_todo gone r = record r { todo = without gone r.todo }

less-lists : (c : Chart) (gone : List ℕ) (r : Running) → FitsLists c r → FitsLists c (less_todo gone r)
less-lists c gone r lists = record {
  active = lists.active;
  entered = lists.entered;
  invokes = lists.invokes;
  no_invoke_twice = lists.no_invoke_twice;
  to_start = set-filter (contains r.env.configuration) (λ n. not (contains gone n)) r.todo lists.to_start;
  none_started = true-of-all (λ (i : Invoked). not (contains (without gone r.todo) i.state)) r.invokes
      (all-of-map (λ (i : Invoked). not (contains r.todo i.state) ≡ true)
      (λ i. not (contains (without gone r.todo) i.state) ≡ true) r.invokes
      (λ i h. ap not (contains-without gone r.todo i.state)
      ∙ fewer (contains r.todo i.state) (not (contains gone i.state)) h)
      (all-of-true (λ (i : Invoked). not (contains r.todo i.state)) r.invokes lists.none_started));
  no_name_twice = lists.no_name_twice;
  declared = lists.declared;
}

-- the exit leaves lists that fit
pub exit-lists : (c : Chart) (gone : List ℕ) (x : RunState) → FitsLists c x.running
    → FitsLists c (exit_states c gone x).running
unfolding exit_states
exit-lists c gone x lists =
    each-lists c (reverse gone) (less_todo gone x.running) (less-lists c gone x.running lists)
    (λ t h. contains-without gone x.running.todo t
    ∙ not-gone (contains x.running.todo t) (contains gone t) (sym (contains-reverse gone t) ∙ h))

-- what was active and is not exited stays active
pub exit-members : (c : Chart) (gone : List ℕ) (x : RunState) (t : ℕ)
    → contains
    (exit_states c gone x).running.env.configuration t ≡ (contains x.running.env.configuration t && not
    (contains gone t))
unfolding exit_states
exit-members c gone x t =
    each-members c (reverse gone) (less_todo gone x.running) t
    ∙ ap (λ v. contains x.running.env.configuration t && not v) (contains-reverse gone t)

-- what the histories recorded
pub exit-records : (c : Chart) (gone : List ℕ) (x : RunState)
    → (exit_states c gone x).histories ≡ record_all c x.running.env.configuration gone x.histories
unfolding exit_states
exit-records c gone x = refl
