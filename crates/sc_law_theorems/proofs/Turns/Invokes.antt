-- Starting the invokes of states, and what an external event does to those that run.
use Rattle.std.proofs.Common.{◌≡◌, ◌⊎◌, inl, inr, ℕ, ◌+◌, ◌-◌, ◌^◌, ◌<◌, ◌≤◌, ◌==◌, ◌&&◌, ◌||◌, nat_lt, not, Bool, true, false, cond, Option, Some, None, List, [], ◌∷◌, ◌++◌, filter, codes, refl, arith, ap, sym, subst, ◌∙◌}
use Rattle.std.specs.List.{AllByRecursion as AllOf, enumerate_from, list_all, list_any}
use Rattle.std.specs.Option.{option_map_or}
use Rattle.std.specs.Str.{bytes_eq}
use Rattle.std.proofs.lemmas.Bool.Decides.{nat_tests}
use Rattle.sc_base.specs.Ascending.{contains}
use Rattle.sc_base.specs.Folds.{each}
use Rattle.sc_types.specs.declared.attribute.Attribute.TheVariants as attribute
use Rattle.sc_types.specs.declared.chart.Chart.{Chart}
use Rattle.sc_types.specs.declared.chart.Node.{Node}
use Rattle.sc_types.specs.declared.chart.Tag.TheVariants as tag
use Rattle.sc_types.specs.declared.effect.Effect.TheVariants.{Forward}
use Rattle.sc_types.specs.declared.event.Event.{Event}
use Rattle.sc_types.specs.declared.session.Invoked.{Invoked}
use Rattle.sc_types.specs.declared.value.Value.TheVariants.{Text}
use Rattle.sc_types.specs.Attributes.{is_text_at, text_at, words_at}
use Rattle.sc_law.specs.Nodes.{is_tag, kids, tag_of}
use Rattle.sc_law.specs.Tree.{kids_of}
use Rattle.sc_law.specs.Configurations.{IsConfiguration}
use Rattle.sc_law.specs.Runs.{Env, RunState, Running, failed, with_effect, with_env, with_running}
use Rattle.sc_law.specs.Data.{set, with_tag}
use Rattle.sc_law.specs.Sending.{PairsOf, children_of, names_of, params_of}
use Rattle.sc_law.specs.Content.{run_blocks}
use Rattle.sc_law.specs.Invokes.{child_name, finalize, finalize_at, finalize_in, finalized, forwarded, invoke_id, invokes_of, is_invoke_type, running_of, start_invoke, start_invokes, start_of, start_with, start_written, started}
use Rattle.sc_law.specs.Fitting.{FitsRun, is_own_invoke, is_same_element, rises}
use Rattle.sc_sets.proofs.Union.Below.{all-of-map, all-of-true}
use Rattle.sc_law_theorems.proofs.Turns.Content.{blocks-move}
use Rattle.sc_law_theorems.proofs.Turns.FitsLists.{FitsLists, fits-keep, fits-of, histories-of, lists-keep, lists-of}
use Rattle.sc_law_theorems.proofs.Turns.Keeps.{Keeps, Moves, each-moves, env-same, env-set, env-then, keeps-cond, keeps-effect, keeps-env, keeps-failed, keeps-same, keeps-then}
use Rattle.sc_law_theorems.proofs.Turns.Lists.{all-filter, all-push, both, distinct-push, flip-false, neither, not-false, not-true, or-later, rises-head, rises-tail, together, true-of-all, under-none}
use Rattle.sc_law_theorems.proofs.Turns.Sending.{params-keep}

-- ---- an external event

choice-keeps : (v : Bool) (r a b : Running) → Keeps r a → Keeps r b → Keeps r (cond v a b)
choice-keeps true r a b h k = h
choice-keeps false r a b h k = k

forwarded-moves : (n : Node) (e : Event) (i : Invoked) → Moves (forwarded n e i)
forwarded-moves n e i r =
    choice-keeps (is_text_at attribute.AutoForward (codes "true") n) r (with_effect (Forward i.child e) r) r
    (keeps-effect (Forward i.child e) r) (keeps-same r)

finalized-moves : (n : Node) (e : Event) (i : Invoked) → Moves (finalized n e i)
finalized-moves n e i r =
    keeps-cond (bytes_eq i.invokeid e.invokeid) (run_blocks (with_tag tag.Finalize (kids n))) (λ same. same) r
    (blocks-move (with_tag tag.Finalize (kids n)) r) (keeps-same r)

at-moves : (s : ℕ) (e : Event) (p : ℕ × Node) → Moves (finalize_at s e p)
at-moves s e p r =
    each-moves (λ (i : Invoked) q. forwarded p.1 e i (finalized p.1 e i q)) (running_of s p.0 r.invokes)
    (λ i q. keeps-then q (finalized p.1 e i q) (forwarded p.1 e i (finalized p.1 e i q)) (finalized-moves p.1 e i q)
    (forwarded-moves p.1 e i (finalized p.1 e i q))) r

in-moves : (c : Chart) (e : Event) (s : ℕ) → Moves (finalize_in c e s)
in-moves c e s r = each-moves (finalize_at s e) (invokes_of c s) (at-moves s e) r

-- an external event changes no invoke
pub finalize-moves : (c : Chart) (e : Event) → Moves (finalize c e)
unfolding finalize
finalize-moves c e r = each-moves (finalize_in c e) r.env.configuration (in-moves c e) r

-- so the run still fits
pub finalize-fits : (c : Chart) (e : Event) (x : RunState) → FitsRun c x
    → FitsRun c (with_running (finalize c e x.running) x)
finalize-fits c e x fits = fits-keep c x (finalize c e x.running) fits (finalize-moves c e x.running)

-- ---- one invoke

-- at most an invoke of this element is started
record Starts (s place : ℕ) (r q : Running) : Type 0 where
  pub rest : Keeps r (record q { invokes = r.invokes })
  pub invokes : (q.invokes ≡ r.invokes)
      ⊎ ((i : Invoked) × ((i.state ≡ s) × ((i.place ≡ place) × (q.invokes ≡ r.invokes ++ i ∷ []))))

starts-none : (s place : ℕ) (r q : Running) → Keeps r q → Starts s place r q
starts-none s place r q h = record {
  rest = record { env = h.env; entered = h.entered; invokes = refl; todo = h.todo };
  invokes = inl h.invokes;
}

starts-then : (s place : ℕ) (r q p : Running) → Keeps r q → Starts s place q p → Starts s place r p
starts-then s place r q p h k = record {
  rest = record {
    env = env-then r.env q.env p.env h.env k.rest.env;
    entered = k.rest.entered ∙ h.entered;
    invokes = refl;
    todo = k.rest.todo ∙ h.todo;
  };
  invokes = by k.invokes;
} where
  by : (p.invokes ≡ q.invokes) ⊎
      ((i : Invoked) × ((i.state ≡ s) × ((i.place ≡ place) × (p.invokes ≡ q.invokes ++ i ∷ []))))
      → (p.invokes ≡ r.invokes) ⊎
      ((i : Invoked) × ((i.state ≡ s) × ((i.place ≡ place) × (p.invokes ≡ r.invokes ++ i ∷ []))))
  by (inl e) = inl (e ∙ h.invokes)
  by (inr n) = inr (n.0, (n.1.0, (n.1.1.0, n.1.1.1 ∙ ap (λ (is : List Invoked). is ++ n.0 ∷ []) h.invokes)))

started-starts : (s place : ℕ) (n : Node) (id : List ℕ) (pairs : PairsOf) (r : Running)
    → Starts s place r (started s place n id pairs r)
started-starts s place n id pairs r = record {
  rest = record { env = env-same r.env; entered = refl; invokes = refl; todo = refl };
  invokes = inr
      (record { state = s; place = place; invokeid = id; child = child_name (r.born + 1) r }, (refl, (refl, refl)));
}

set-starts : (s place : ℕ) (n : Node) (id name : List ℕ) (pairs : PairsOf) (r : Running) (o : Option Env)
    → set name (Text id) r.env ≡ o
    → Starts s place r (option_map_or (λ env. started s place n id pairs (with_env env r)) o (failed [] r))
set-starts s place n id name pairs r None e = starts-none s place r (failed [] r) (keeps-failed [] r)
set-starts s place n id name pairs r (Some env) e =
    starts-then s place r (with_env env r) (started s place n id pairs (with_env env r))
    (keeps-env r env (env-set name (Text id) r.env env e))
    (started-starts s place n id pairs (with_env env r))

written-starts : (s place : ℕ) (n : Node) (id : List ℕ) (pairs : PairsOf) (r : Running)
    → Starts s place r (start_written s place n id pairs r)
written-starts s place n id pairs r = by (text_at attribute.IdLocation n) where
  by : (o : Option (List ℕ)) → Starts s place r (option_map_or (λ name.
      option_map_or (λ env. started s place n id pairs (with_env env r)) (set name (Text id) r.env) (failed [] r)) o
      (started s place n id pairs r))
  by None = started-starts s place n id pairs r
  by (Some name) = set-starts s place n id name pairs r (set name (Text id) r.env) refl

named-starts : (c : Chart) (s place : ℕ) (n : Node) (r : Running) (o : Option PairsOf)
    → Starts s place r
    (option_map_or (λ pairs. start_with c s place n pairs (params_of (children_of n) r)) o (failed [] r))
named-starts c s place n r None = starts-none s place r (failed [] r) (keeps-failed [] r)
named-starts c s place n r (Some pairs) =
    starts-then s place r (params_of (children_of n) r).1 (start_with c s place n pairs (params_of (children_of n) r))
    (params-keep (children_of n) r)
    (written-starts s place n (invoke_id c s n ((params_of (children_of n) r).1.born + 1))
    (pairs ++ (params_of (children_of n) r).0)
    (params_of (children_of n) r).1)

-- at most one invoke is started
invoke-starts : (c : Chart) (s place : ℕ) (n : Node) (r : Running) → Starts s place r (start_invoke c s place n r)
invoke-starts c s place n r =
    by (option_map_or is_invoke_type (text_at attribute.Type n) true && nat_lt r.born (2 ^ 64 - 1)) where
      by : (v : Bool)
          → Starts s place r
          (cond v (option_map_or (λ pairs. start_with c s place n pairs (params_of (children_of n) r))
          (names_of (words_at attribute.NameList n) r.env) (failed [] r)) (failed [] r))
      by true = named-starts c s place n r (names_of (words_at attribute.NameList n) r.env)
      by false = starts-none s place r (failed [] r) (keeps-failed [] r)

-- ---- an invoke joins the list

-- none of these invokes is of this element
abbrev IsNew : ℕ → ℕ → List Invoked → Type 0
IsNew s place is = AllOf (λ (i : Invoked). (i.state == s && i.place == place) ≡ false) is

abbrev has_place : Chart → ℕ → ℕ → Bool
has_place c s place = list_any (λ (p : ℕ × Node). p.0 == place) (invokes_of c s)

abbrev with_invokes : List Invoked → Running → Running
with_invokes is r = record r { invokes = is }

abbrev with_todo : List ℕ → Running → Running
with_todo ss r = record r { todo = ss }

pushed-lists : (c : Chart) (r : Running) (i : Invoked) → FitsLists c r → contains r.env.configuration i.state ≡ true
    → has_place c i.state i.place ≡ true → contains r.todo i.state ≡ false → IsNew i.state i.place r.invokes
    → FitsLists c (with_invokes (r.invokes ++ i ∷ []) r)
pushed-lists c r i lists active place none new = record {
  active = lists.active;
  entered = lists.entered;
  invokes = true-of-all (is_own_invoke c r.env.configuration) (r.invokes ++ i ∷ [])
      (all-push (λ j. is_own_invoke c r.env.configuration j ≡ true) r.invokes i
      (all-of-true (is_own_invoke c r.env.configuration) r.invokes lists.invokes)
      (together (contains r.env.configuration i.state) (has_place c i.state i.place) active place));
  no_invoke_twice = distinct-push is_same_element r.invokes i lists.no_invoke_twice new;
  to_start = lists.to_start;
  none_started = true-of-all (λ (j : Invoked). not (contains r.todo j.state)) (r.invokes ++ i ∷ [])
      (all-push (λ j. not (contains r.todo j.state) ≡ true) r.invokes i
      (all-of-true (λ (j : Invoked). not (contains r.todo j.state)) r.invokes lists.none_started)
      (not-false (contains r.todo i.state) none));
  no_name_twice = lists.no_name_twice;
  declared = lists.declared;
}

-- a run in which the invokes of a state at these places are still to be started
record IsStarting (c : Chart) (s : ℕ) (ss : List ℕ) (ps : List (ℕ × Node)) (r : Running) : Type 0 where
  pub lists : FitsLists c (with_todo ss r)
  pub active : contains r.env.configuration s ≡ true
  pub new : AllOf (λ (p : ℕ × Node). IsNew s p.0 r.invokes) ps

started-lists : (c : Chart) (s place : ℕ) (ss : List ℕ) (r q : Running) → FitsLists c (with_todo ss r)
    → contains r.env.configuration s ≡ true
    → contains ss s ≡ false → has_place c s place ≡ true → IsNew s place r.invokes → Starts s place r q
    → FitsLists c (with_todo ss q)
started-lists c s place ss r q lists active none has new starts = by starts.invokes where
  kept : FitsLists c (with_todo ss (with_invokes r.invokes q))
  kept = lists-keep c (with_todo ss r) (with_todo ss (with_invokes r.invokes q)) lists
      (record { env = starts.rest.env; entered = starts.rest.entered; invokes = refl; todo = refl })

  by : (q.invokes ≡ r.invokes) ⊎
      ((i : Invoked) × ((i.state ≡ s) × ((i.place ≡ place) × (q.invokes ≡ r.invokes ++ i ∷ []))))
      → FitsLists c (with_todo ss q)
  by (inl e) = subst (λ is. FitsLists c (with_todo ss (with_invokes is q))) (sym e) kept
  by (inr n) = subst (λ is. FitsLists c (with_todo ss (with_invokes is q))) (sym n.1.1.1)
      (pushed-lists c (with_todo ss (with_invokes r.invokes q)) n.0 kept
      (subst (λ l. contains l n.0.state ≡ true) (sym starts.rest.env.configuration)
      (subst (λ k. contains r.env.configuration k ≡ true) (sym n.1.0) active))
      (subst (λ k. has_place c k n.0.place ≡ true) (sym n.1.0) (subst (λ k. has_place c s k ≡ true) (sym n.1.1.0) has))
      (subst (λ k. contains ss k ≡ false) (sym n.1.0) none)
      (subst (λ k. IsNew k n.0.place r.invokes) (sym n.1.0) (subst (λ k. IsNew s k r.invokes) (sym n.1.1.0) new)))

and-last : (v w : Bool) → w ≡ false → (v && w) ≡ false
and-last true w h = h
and-last false w h = refl

-- the invokes at later places are still to be started
later-new : (s place : ℕ) (r q : Running) (ps : List (ℕ × Node)) → AllOf (λ (p : ℕ × Node). place < p.0) ps
    → AllOf (λ (p : ℕ × Node). IsNew s p.0 r.invokes) ps → Starts s place r q
    → AllOf (λ (p : ℕ × Node). IsNew s p.0 q.invokes) ps
later-new s place r q [] above new starts = tt
later-new s place r q (p ∷ ps) above new starts =
    (by starts.invokes, later-new s place r q ps above.1 new.1 starts) where
      by : (q.invokes ≡ r.invokes) ⊎
          ((i : Invoked) × ((i.state ≡ s) × ((i.place ≡ place) × (q.invokes ≡ r.invokes ++ i ∷ []))))
          → IsNew s p.0 q.invokes
      by (inl e) = subst (IsNew s p.0) (sym e) new.0
      by (inr n) =
          let l = above.0 in
          let at : n.0.place ≡ place = n.1.1.0 in
          let other : (n.0.place == p.0) ≡ false = grind (arith, nat_tests) in
          subst (IsNew s p.0) (sym n.1.1.1)
          (all-push (λ (i : Invoked). (i.state == s && i.place == p.0) ≡ false) r.invokes n.0 new.0
          (and-last (n.0.state == s) (n.0.place == p.0) other))

-- ---- the invokes of a state

-- places that rise
abbrev AreRising : List (ℕ × Node) → Type 0
AreRising [] = Unit
AreRising (p ∷ ps) = AllOf (λ (q : ℕ × Node). p.0 < q.0) ps × AreRising ps

numbered-from : (n : ℕ) (ns : List Node) → AllOf (λ (p : ℕ × Node). n ≤ p.0) (enumerate_from n ns)
numbered-from n [] = tt
numbered-from n (m ∷ ns) = (
  omega arith,
  all-of-map (λ (p : ℕ × Node). n + 1 ≤ p.0) (λ p. n ≤ p.0) (enumerate_from (n + 1) ns)
      (λ p l. omega arith) (numbered-from (n + 1) ns),
)

numbered-rising : (n : ℕ) (ns : List Node) → AreRising (enumerate_from n ns)
numbered-rising n [] = tt
numbered-rising n (m ∷ ns) = (
  all-of-map (λ (p : ℕ × Node). n + 1 ≤ p.0) (λ p. n < p.0) (enumerate_from (n + 1) ns) (λ p l. omega arith)
      (numbered-from (n + 1) ns),
  numbered-rising (n + 1) ns,
)

rising-filter : (test : ℕ × Node → Bool) (ps : List (ℕ × Node)) → AreRising ps → AreRising (filter test ps)
rising-filter test [] rising = tt
rising-filter test (p ∷ ps) rising = by (test p) (rising-filter test ps rising.1) where
  by : (v : Bool) → AreRising (filter test ps) → AreRising (cond v (p ∷ filter test ps) (filter test ps))
  by true rest = (all-filter (λ (q : ℕ × Node). p.0 < q.0) test ps rising.0, rest)
  by false rest = rest

places-rise : (c : Chart) (s : ℕ) → AreRising (invokes_of c s)
places-rise c s =
    rising-filter (λ (p : ℕ × Node). is_tag tag.Invoke (tag_of p.1)) (enumerate_from 0 (kids_of c s))
    (numbered-rising 0 (kids_of c s))

each-found : (ps : List (ℕ × Node)) → AllOf (λ (p : ℕ × Node). list_any (λ (q : ℕ × Node). q.0 == p.0) ps ≡ true) ps
each-found [] = tt
each-found (p ∷ ps) = (
  (let hit : (p.0 == p.0) ≡ true = grind (arith, nat_tests) in ap
      (λ v. v || list_any (λ (q : ℕ × Node). q.0 == p.0) ps) hit),
  all-of-map (λ (o : ℕ × Node). list_any (λ (q : ℕ × Node). q.0 == o.0) ps ≡ true)
      (λ o. list_any (λ (q : ℕ × Node). q.0 == o.0) (p ∷ ps) ≡ true) ps
      (λ o h. or-later (p.0 == o.0) (list_any (λ (q : ℕ × Node). q.0 == o.0) ps) h) (each-found ps),
)

abbrev start_at : Chart → ℕ → ℕ × Node → Running → Running
start_at c s p r = start_invoke c s p.0 p.1 r

each-started : (c : Chart) (s : ℕ) (ss : List ℕ) (ps : List (ℕ × Node)) (r : Running) → contains ss s ≡ false
    → AreRising ps
    → AllOf (λ (p : ℕ × Node). has_place c s p.0 ≡ true) ps → IsStarting c s ss ps r
    → FitsLists c (with_todo ss (each (start_at c s) ps r))
each-started c s ss [] r none rising has starting = starting.lists
each-started c s ss (p ∷ ps) r none rising has starting =
    each-started c s ss ps (start_at c s p r) none rising.1 has.1 (record {
      lists = started-lists c s p.0 ss r (start_at c s p r) starting.lists starting.active none has.0 starting.new.0
          (invoke-starts c s p.0 p.1 r);
      active = subst (λ l. contains l s ≡ true)
          (sym (invoke-starts c s p.0 p.1 r).rest.env.configuration) starting.active;
      new = later-new s p.0 r (start_at c s p r) ps rising.0 starting.new.1 (invoke-starts c s p.0 p.1 r);
    })

-- ---- the invokes of states

and-first : (v w : Bool) → v ≡ false → (v && w) ≡ false
and-first true w h = absurd (cc)
and-first false w h = refl

first-new : (s place : ℕ) (ss : List ℕ) (is : List Invoked)
    → AllOf (λ (i : Invoked). not (contains (s ∷ ss) i.state) ≡ true) is → IsNew s place is
first-new s place ss is none =
    all-of-map (λ (i : Invoked). not (contains (s ∷ ss) i.state) ≡ true)
    (λ i. (i.state == s && i.place == place) ≡ false) is
    (λ i h. and-first (i.state == s) (i.place == place)
    (flip-false s i.state
    (neither (s == i.state) (contains ss i.state) (not-true (contains (s ∷ ss) i.state) h)).0)) none

each-new : (s : ℕ) (ss : List ℕ) (is : List Invoked) (ps : List (ℕ × Node))
    → AllOf (λ (i : Invoked). not (contains (s ∷ ss) i.state) ≡ true) is
    → AllOf (λ (p : ℕ × Node). IsNew s p.0 is) ps
each-new s ss is [] none = tt
each-new s ss is (p ∷ ps) none = (first-new s p.0 ss is none, each-new s ss is ps none)

fewer-todo : (c : Chart) (s : ℕ) (ss : List ℕ) (r : Running) → FitsLists c (with_todo (s ∷ ss) r)
    → FitsLists c (with_todo ss r)
fewer-todo c s ss r lists = record {
  active = lists.active;
  entered = lists.entered;
  invokes = lists.invokes;
  no_invoke_twice = lists.no_invoke_twice;
  to_start = (let t = both (rises (s ∷ ss)) (list_all (contains r.env.configuration) (s ∷ ss)) lists.to_start in
      together (rises ss) (list_all (contains r.env.configuration) ss) (rises-tail s ss t.0)
      (both (contains r.env.configuration s) (list_all (contains r.env.configuration) ss) t.1).1);
  none_started = true-of-all (λ (i : Invoked). not (contains ss i.state)) r.invokes
      (all-of-map (λ (i : Invoked). not (contains (s ∷ ss) i.state) ≡ true)
      (λ i. not (contains ss i.state) ≡ true) r.invokes
      (λ i h. not-false (contains ss i.state)
      (neither (s == i.state) (contains ss i.state) (not-true (contains (s ∷ ss) i.state) h)).1)
      (all-of-true (λ (i : Invoked). not (contains (s ∷ ss) i.state)) r.invokes lists.none_started));
  no_name_twice = lists.no_name_twice;
  declared = lists.declared;
}

state-started : (c : Chart) (s : ℕ) (ss : List ℕ) (r : Running) → FitsLists c (with_todo (s ∷ ss) r)
    → FitsLists c (with_todo ss (start_of c s r))
state-started c s ss r lists =
    let t = both (rises (s ∷ ss)) (list_all (contains r.env.configuration) (s ∷ ss)) lists.to_start in
    each-started c s ss (invokes_of c s) r (under-none s ss (rises-head s ss t.0)) (places-rise c s)
    (each-found (invokes_of c s)) (record {
      lists = fewer-todo c s ss r lists;
      active = (both (contains r.env.configuration s) (list_all (contains r.env.configuration) ss) t.1).0;
      new = each-new s ss r.invokes (invokes_of c s)
          (all-of-true (λ (i : Invoked). not (contains (s ∷ ss) i.state)) r.invokes lists.none_started);
    })

all-started : (c : Chart) (ss : List ℕ) (r : Running) → FitsLists c (with_todo ss r)
    → FitsLists c (with_todo [] (each (start_of c) ss r))
all-started c [] r lists = lists
all-started c (s ∷ ss) r lists = all-started c ss (start_of c s r) (state-started c s ss r lists)

-- the configuration stays
places-stay : (c : Chart) (s : ℕ) (ps : List (ℕ × Node)) (r : Running)
    → (each (start_at c s) ps r).env.configuration ≡ r.env.configuration
places-stay c s [] r = refl
places-stay c s (p ∷ ps) r =
    places-stay c s ps (start_at c s p r) ∙ (invoke-starts c s p.0 p.1 r).rest.env.configuration

states-stay : (c : Chart) (ss : List ℕ) (r : Running) → (each (start_of c) ss r).env.configuration ≡ r.env.configuration
states-stay c [] r = refl
states-stay c (s ∷ ss) r = states-stay c ss (start_of c s r) ∙ places-stay c s (invokes_of c s) r

-- once the invokes of the states that were entered are started, the run still fits
pub start_invokes-fits : (c : Chart) (x : RunState) → FitsRun c x → FitsRun c (start_invokes c x)
unfolding start_invokes
start_invokes-fits c x fits =
    fits-of c (record x { running = with_todo [] (each (start_of c) x.running.todo x.running) })
    (all-started c x.running.todo x.running (lists-of c x fits)) (histories-of c x fits)
    (subst (IsConfiguration c) (sym (states-stay c x.running.todo x.running)) fits.legal)
