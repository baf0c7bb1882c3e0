-- The table of histories after an exit is in their order, and each record is an ascending list of states.
use Rattle.std.proofs.Common.{◌≡◌, ℕ, ◌+◌, ◌≤◌, ◌==◌, ◌&&◌, not, nat_lt, zero, suc, Bool, true, false, cond, Option, Some, None, List, [], ◌∷◌, filter, filter_map, find, map, refl, arith, sym, subst}
use Rattle.std.specs.Prelude.{IsTrue}
use Rattle.std.proofs.lemmas.Bool.Decides.{nat_tests}
use Rattle.std.specs.List.{cons_option, list_all, range_with_len}
use Rattle.sc_base.specs.Ascending.{contains}
use Rattle.sc_types.specs.declared.chart.Chart.{Chart}
use Rattle.sc_law.specs.Tree.{is_below, state_count}
use Rattle.sc_law.specs.Kinds.{is_atomic, is_deep, is_history}
use Rattle.sc_law.specs.Configurations.{IsConfiguration, parent_of}
use Rattle.sc_law.specs.Sets.{Histories}
use Rattle.sc_law.specs.Records.{kept_by, record_all, records}
use Rattle.sc_law.specs.Fitting.{are_states, rises}
use Rattle.sc_sets.proofs.Union.Below.{all-of-true}
use Rattle.sc_sets.proofs.Union.Forks.{both}
use Rattle.sc_sets.proofs.Union.Recorded.{contains-filter, find-has, key-of}
use Rattle.sc_law_theorems.proofs.Legal.Lists.{Ascends, and-both, ascends-filter, ascends-lower, list-all-by, list-all-has}

-- a table of histories in their order, each of whose records is an ascending list of states
pub record IsTable (c : Chart) (h : Histories) : Type 0 where
  pub in_order : IsTrue (rises (map (λ (kept : ℕ × List ℕ). kept.0) h))
  pub kept : IsTrue (list_all (λ (kept : ℕ × List ℕ). are_states c kept.1) h)

-- ---- ascending lists

-- an ascending list, as the fitting of a run says it
pub ascend-rise : (lo : ℕ) (xs : List ℕ) → Ascends lo xs → rises xs ≡ true
ascend-rise lo [] h = refl
ascend-rise lo (x ∷ []) h = refl
ascend-rise lo (x ∷ y ∷ ys) h =
    let l : x + 1 ≤ y = h.1.0 in
    let less : nat_lt x y ≡ true = grind (arith, nat_tests) in and-both (nat_lt x y) (rises (y ∷ ys)) less
    (ascend-rise (x + 1) (y ∷ ys) h.1)

rise-ascends : (x : ℕ) (xs : List ℕ) → rises (x ∷ xs) ≡ true → Ascends x (x ∷ xs)
rise-ascends x [] h = (omega arith, tt)
rise-ascends x (y ∷ ys) h =
    let t = both (nat_lt x y) (rises (y ∷ ys)) h in
    let less : nat_lt x y ≡ true = t.0 in
    let l : x + 1 ≤ y = grind (arith, nat_tests) in
    (omega arith, ascends-lower (x + 1) y (y ∷ ys) l (rise-ascends y ys t.1))

-- and back
pub rises-ascend : (xs : List ℕ) → rises xs ≡ true → Ascends 0 xs
rises-ascend [] h = tt
rises-ascend (x ∷ xs) h = ascends-lower 0 x (x ∷ xs) (omega arith) (rise-ascends x xs h)

range-ascends : (from n : ℕ) → Ascends from (range_with_len from n)
range-ascends from zero = tt
range-ascends from (suc n) = (omega arith, range-ascends (from + 1) n)

keys-ascend : (f : ℕ → Option (ℕ × List ℕ)) (lo : ℕ) (xs : List ℕ) → ((s : ℕ) (k : ℕ × List ℕ) → f s ≡ Some k → k.0 ≡ s)
    → Ascends lo xs
    → Ascends lo (map (λ (kept : ℕ × List ℕ). kept.0) (filter_map f xs))
keys-ascend f lo [] key h = tt
keys-ascend f lo (x ∷ xs) key h = by (f x) refl (keys-ascend f (x + 1) xs key h.1) where
  by : (o : Option (ℕ × List ℕ)) → f x ≡ o → Ascends (x + 1) (map (λ (kept : ℕ × List ℕ). kept.0) (filter_map f xs))
      → Ascends lo (map (λ (kept : ℕ × List ℕ). kept.0) (cons_option o (filter_map f xs)))
  by None e rest =
      ascends-lower lo (x + 1) (map (λ (kept : ℕ × List ℕ). kept.0) (filter_map f xs))
      (let l : lo ≤ x = h.0 in omega arith) rest
  by (Some k) e rest =
      let same : k.0 ≡ x = key x k e in (
        let l : lo ≤ x = h.0 in omega arith,
        subst (λ n. Ascends (n + 1) (map (λ (kept : ℕ × List ℕ). kept.0) (filter_map f xs))) (sym same) rest,
      )

all-found : (test : ℕ × List ℕ → Bool) (f : ℕ → Option (ℕ × List ℕ)) (xs : List ℕ)
    → ((s : ℕ) (k : ℕ × List ℕ) → f s ≡ Some k → test k ≡ true)
    → list_all test (filter_map f xs) ≡ true
all-found test f [] each = refl
all-found test f (x ∷ xs) each = by (f x) refl (all-found test f xs each) where
  by : (o : Option (ℕ × List ℕ)) → f x ≡ o → list_all test (filter_map f xs) ≡ true
      → list_all test (cons_option o (filter_map f xs)) ≡ true
  by None e rest = rest
  by (Some k) e rest = and-both (test k) (list_all test (filter_map f xs)) (each x k e) rest

-- ---- records

-- a part of an ascending list of states is one
part-states : (c : Chart) (test : ℕ → Bool) (configuration : List ℕ) → IsConfiguration c configuration
    → rises configuration ≡ true
    → are_states c (filter test configuration) ≡ true
part-states c test configuration is up =
    and-both (rises (filter test configuration))
    (list_all (λ s. nat_lt s (state_count c) && not (is_history c s)) (filter test configuration))
    (ascend-rise 0 (filter test configuration) (ascends-filter test 0 configuration (rises-ascend configuration up)))
    (list-all-by (λ s. nat_lt s (state_count c) && not (is_history c s)) (filter test configuration)
    (λ s i. list-all-has (λ s. nat_lt s (state_count c) && not (is_history c s)) configuration s is.states
    (contains-filter test s configuration i).0))

records-states : (c : Chart) (configuration : List ℕ) (s : ℕ) → IsConfiguration c configuration
    → rises configuration ≡ true
    → are_states c (records c configuration s) ≡ true
records-states c configuration s is up = by (is_deep c s) where
  by : (v : Bool) → are_states c (cond v (filter (λ a. is_below c a (parent_of c s) && is_atomic c a) configuration)
      (filter (λ a. parent_of c a == parent_of c s) configuration)) ≡ true
  by true = part-states c (λ a. is_below c a (parent_of c s) && is_atomic c a) configuration is up
  by false = part-states c (λ a. parent_of c a == parent_of c s) configuration is up

kept-states : (c : Chart) (configuration gone : List ℕ) (h : Histories) (s : ℕ) (k : ℕ × List ℕ)
    → IsConfiguration c configuration → rises configuration ≡ true
    → IsTable c h → kept_by c configuration gone h s ≡ Some k → are_states c k.1 ≡ true
kept-states c configuration gone h s k is up table e = by (is_history c s) (contains gone (parent_of c s)) e where
  by : (v w : Bool) → cond (not v) None
      (cond w (Some (s, records c configuration s)) (find (λ (kept : ℕ × List ℕ). kept.0 == s) h)) ≡ Some k
      → are_states c k.1 ≡ true
  by false w e = absurd (cc)
  by true true e = (let same : (s, records c configuration s) ≡ k = cc in
      subst (λ (x : ℕ × List ℕ). are_states c x.1 ≡ true) same (records-states c configuration s is up))
  by true false e = find-has (λ x. are_states c x.1 ≡ true) s h k (all-of-true (λ x. are_states c x.1) h table.kept) e

-- recording keeps the table in order
pub record-table : (c : Chart) (configuration gone : List ℕ) (h : Histories) → IsConfiguration c configuration
    → rises configuration ≡ true → IsTable c h
    → IsTable c (record_all c configuration gone h)
unfolding record_all
record-table c configuration gone h is up table = record {
  in_order =
      ascend-rise 0 (map (λ (kept : ℕ × List ℕ). kept.0)
      (filter_map (kept_by c configuration gone h) (range_with_len 0 (state_count c))))
      (keys-ascend (kept_by c configuration gone h) 0 (range_with_len 0 (state_count c)) (key-of c configuration gone h)
      (range-ascends 0 (state_count c)));
  kept =
      all-found (λ (kept : ℕ × List ℕ). are_states c kept.1) (kept_by c configuration gone h)
      (range_with_len 0 (state_count c))
      (λ s k e. kept-states c configuration gone h s k is up table e);
}
