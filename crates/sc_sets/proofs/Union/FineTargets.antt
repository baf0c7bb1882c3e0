-- Targets whose states are below a domain: default targets, and those of transitions.
use Rattle.std.proofs.Common.{◌≡◌, ◌⊎◌, inl, inr, ℕ, ◌<◌, ◌≤◌, ◌==◌, ◌&&◌, not, nat_eq, nat_lt, suc, Bool, true, false, cond, Option, Some, None, option_and_then, unwrap_or, All, List, [], ◌∷◌, ◌++◌, filter, find, flat_map, length, refl, arith, ap, sym, subst, ◌∙◌}
use Rattle.std.proofs.lemmas.Bool.Decides.{nat_tests}
use Rattle.std.proofs.lemmas.List.Elements.{recursion_from_All}
use Rattle.sc_types.specs.declared.chart.Chart.{Chart}
use Rattle.sc_law.specs.Nodes.{leads_on, parent}
use Rattle.sc_law.specs.Tree.{is_below, path_of, state_count}
use Rattle.sc_law.specs.Kinds.{is_atomic, is_deep, is_history}
use Rattle.sc_law.specs.Legality.{legal_fault}
use Rattle.sc_law.specs.Configurations.{IsConfiguration, defaults, parent_of}
use Rattle.sc_law.specs.Sets.{Histories, effective_targets, some_states, stands_for, value_of_history}
use Rattle.sc_law.specs.Entry.{bound_of}
use Rattle.sc_law.specs.Records.{records}
use Rattle.sc_law.specs.Fitting.{IsRecorded}
use Rattle.sc_law.specs.Transitions.{targets}
use Rattle.sc_tables.proofs.Leads.{leads-begin, leads-from, leads-shorter}
use Rattle.sc_tables.proofs.LookUps.{path-is}
use Rattle.sc_tables.proofs.Order.{begins, begins-trans}
use Rattle.sc_tables.proofs.Within.{below_root_is, defaults_within, named_within}
use Rattle.std.specs.List.{AllByRecursion as AllOf}
use Rattle.sc_sets.proofs.Union.Below.{Fine, HasDefaults, Within, all-of-map, all-of-true, fine-state}
use Rattle.sc_sets.proofs.Union.Forks.{filter-hold, fork, is-tree}
use Rattle.sc_sets.proofs.Union.LegalDefaults.{compound-defaults, history-defaults}
use Rattle.sc_sets.proofs.Union.Parents.{HasParent, at-parent, parent-above-element, parent-near}
use Rattle.sc_sets.proofs.Union.Conditions.{IsAboveTargets}
use Rattle.sc_sets.proofs.Union.Alone.{FineTargets}

both : (v w : Bool) → (v && w) ≡ true → (v ≡ true) × (w ≡ true)
both true w h = (refl, h)
both false w h = absurd (cc)

not-true : (v : Bool) → not v ≡ true → v ≡ false
not-true true h = absurd (cc)
not-true false h = refl

pub all-pairs : {A : Type 0} (P Q : A → Type 0) (xs : List A) → AllOf P xs → AllOf Q xs → AllOf (λ x. P x × Q x) xs
all-pairs P Q [] h i = tt
all-pairs P Q (x ∷ xs) h i = ((h.0, i.0), all-pairs P Q xs h.1 i.1)

-- the same as a fact by recursion
pub from-all : {A : Type 0} (P : A → Type 0) (xs : List A) → All P xs → AllOf P xs
from-all P [] h = tt
from-all P (x ∷ xs) h = let r = recursion_from_All P (x ∷ xs) h in (r.0, from-all P xs (λ k d l. h (suc k) d (omega arith)))

-- ---- what histories stand for

-- a state of a legal chart is below its parent
pub below-parent : (c : Chart) (s : ℕ) → legal_fault c ≡ None → s < state_count c → is_below c s (parent_of c s) ≡ true
below-parent c s legal l = by has.0 has.1 where
  has : (o : Option ℕ) × HasParent c s o
  has = parent-near c s l

  by : (o : Option ℕ) → HasParent c s o → is_below c s (parent_of c s) ≡ true
  by None near = ap (is_below c s) near.same ∙ below_root_is c s legal l
  by (Some p) near =
      ap (is_below c s) near.same ∙ ap (λ q. leads_on q (path_of c s)) (path-is c p) ∙ ap (leads_on _) (path-is c s) ∙ near.near.1

-- a state below the parent of a history, which is no history
abbrev pub IsRecalled : Chart → ℕ → ℕ → Type 0
IsRecalled c s u = (is_history c u ≡ false) × (is_below c u (parent_of c s) ≡ true)

-- what a history recorded
records-below : (c : Chart) (configuration : List ℕ) (s : ℕ) → legal_fault c ≡ None → IsConfiguration c configuration
    → AllOf (IsRecalled c s) (records c configuration s)
records-below c configuration s legal is = by (is_deep c s) where
  states : AllOf (λ a. (a < state_count c) × (is_history c a ≡ false)) configuration
  states = all-of-map _ _ configuration
      (λ a t. let parts = both (nat_lt a (state_count c)) (not (is_history c a)) t in
      ((let l = parts.0 in grind (arith, nat_tests)), not-true (is_history c a) parts.1))
      (all-of-true (λ a. nat_lt a (state_count c) && not (is_history c a)) configuration is.states)

  by : (v : Bool) → AllOf (IsRecalled c s) (cond v (filter (λ a. is_below c a (parent_of c s) && is_atomic c a) configuration)
      (filter (λ a. parent_of c a == parent_of c s) configuration))
  by true = all-of-map _ _ (filter (λ a. is_below c a (parent_of c s) && is_atomic c a) configuration)
      (λ a t. (t.1.1, (both (is_below c a (parent_of c s)) (is_atomic c a) t.0).0))
      (filter-hold (λ a. (a < state_count c) × (is_history c a ≡ false)) (λ a. is_below c a (parent_of c s) && is_atomic c a) configuration states)
  by false = all-of-map _ _ (filter (λ a. parent_of c a == parent_of c s) configuration)
      (λ a t. (
        t.1.1,
        (let e : parent_of c a ≡ parent_of c s = (let u = t.0 in grind (arith, nat_tests)) in
            subst (λ p. is_below c a p ≡ true) e (below-parent c a legal t.1.0)),
      ))
      (filter-hold (λ a. (a < state_count c) × (is_history c a ≡ false)) (λ a. parent_of c a == parent_of c s) configuration states)

recorded-below : (c : Chart) (kept : ℕ × List ℕ) → legal_fault c ≡ None → IsRecorded c kept → AllOf (IsRecalled c kept.0) kept.1
recorded-below c kept legal is =
    let of = is.1 in
    subst (AllOf (IsRecalled c kept.0)) (sym of.3) (records-below c of.0 kept.0 legal of.1)

-- what a table of histories has for one
value-below : (c : Chart) (s : ℕ) (h : Histories) (ss : List ℕ) → legal_fault c ≡ None → AllOf (IsRecorded c) h
    → value_of_history h s ≡ Some ss → AllOf (IsRecalled c s) ss
value-below c s [] ss legal all is = absurd (cc)
value-below c s (kept ∷ h) ss legal all is = by (kept.0 == s) refl is (value-below c s h ss legal all.1) where
  on : (ts : List ℕ) → kept.1 ≡ ts → kept.0 ≡ s → some_states ts ≡ Some ss → AllOf (IsRecalled c s) ss
  on [] e same is = absurd (cc)
  on (t ∷ ts) e same is =
      let all_kept = recorded-below c kept legal all.0 in
      let eq : (t ∷ ts) ≡ ss = cc in
      subst (AllOf (IsRecalled c s)) (e ∙ eq) (subst (λ k. AllOf (IsRecalled c k) kept.1) same all_kept)

  by : (v : Bool) → (kept.0 == s) ≡ v
      → option_and_then (λ (k : ℕ × List ℕ). some_states k.1) (cond v (Some kept) (find (λ (k : ℕ × List ℕ). k.0 == s) h)) ≡ Some ss
      → (value_of_history h s ≡ Some ss → AllOf (IsRecalled c s) ss) → AllOf (IsRecalled c s) ss
  by true e at so = on kept.1 refl (grind (arith, nat_tests)) at
  by false e at so = so at

pub begins-length : (p q : List ℕ) → begins p q ≡ true → length p ≤ length q
begins-length [] q h = omega arith
begins-length (x ∷ p) [] h = absurd (cc)
begins-length (x ∷ p) (y ∷ q) h = let l : length p ≤ length q = begins-length p q (both (nat_eq x y) (begins p q) h).1 in omega arith

-- the default targets of a history
defaults-below : (c : Chart) (s : ℕ) → legal_fault c ≡ None → s < state_count c → is_history c s ≡ true → AllOf (IsRecalled c s) (defaults c s)
defaults-below c s legal l is =
    all-of-map _ _ (defaults c s) (λ u t. (t.1.0, below u t.1.1)) (history-defaults c s legal l is) where
      below : (u : ℕ) → leads_on (parent (path_of c s)) (path_of c u) ≡ true → is_below c u (parent_of c s) ≡ true
      below u h =
          let above = parent-above-element c s l in
          let short = begins-length (path_of c (parent_of c s)) (parent (path_of c s)) above in
          let long = leads-shorter (parent (path_of c s)) (path_of c u) h in
          leads-from (path_of c (parent_of c s)) (path_of c u)
          (begins-trans (path_of c (parent_of c s)) (parent (path_of c s)) (path_of c u) above (leads-begin (parent (path_of c s)) (path_of c u) h)) (omega arith)

-- what a history stands for
pub history-states : (c : Chart) (h : Histories) (s : ℕ) → legal_fault c ≡ None → AllOf (IsRecorded c) h → s < state_count c → is_history c s ≡ true
    → AllOf (IsRecalled c s) (stands_for c h s)
history-states c h s legal all l is =
    rw is (by (value_of_history h s) refl) where
      by : (o : Option (List ℕ)) → value_of_history h s ≡ o → AllOf (IsRecalled c s) (unwrap_or o (defaults c s))
      by None e = defaults-below c s legal l is
      by (Some ss) e = value-below c s h ss legal all e

-- ---- default targets of compound states

within-bound : (c : Chart) (d p : ℕ) (v : Bool) → (v ≡ false → Within c d p) → Within c d (cond v d p)
within-bound c d p true h = inr refl
within-bound c d p false h = h refl

below-parent-state : (c : Chart) (d s p u : ℕ) → is_below c s d ≡ true → (is_below c p s ≡ true) ⊎ (path_of c p ≡ path_of c s)
    → is_below c u p ≡ true → is_below c u d ≡ true
below-parent-state c d s p u below (inl on) h = (is-tree c).on u p d h ((is-tree c).on p s d on below)
below-parent-state c d s p u below (inr same) h = (is-tree c).on u s d (subst (λ q. leads_on q (path_of c u) ≡ true) same h) below

parent-within : (c : Chart) (d s p : ℕ) → is_below c s d ≡ true → (is_below c p s ≡ true) ⊎ (path_of c p ≡ path_of c s) → is_below c p d ≡ true
parent-within c d s p below (inl on) = (is-tree c).on p s d on below
parent-within c d s p below (inr same) = ap (leads_on (path_of c d)) same ∙ below

fine-default : (c : Chart) (h : Histories) (d s t : ℕ) → legal_fault c ≡ None → AllOf (IsRecorded c) h → is_below c s d ≡ true
    → t < state_count c → is_below c t s ≡ true → Fine c h d t
fine-default c h d s t legal all below l on = by (is_history c t) refl where
  by : (v : Bool) → is_history c t ≡ v → Fine c h d t
  by false e = fine-state c h d t e ((is-tree c).on t s d on below)
  by true e =
      let up = at-parent c s t l on in
      record {
        each = all-of-map _ _ (stands_for c h t) (λ u r. (r.0, below-parent-state c d s (parent_of c t) u below up r.1))
            (history-states c h t legal all l e);
        bound = inl (λ is. within-bound c d (parent_of c t) (is_below c d (parent_of c t)) (λ no. inl (parent-within c d s (parent_of c t) below up)));
      }

-- the default targets of compound states stand below them, and so do the states of histories among them
pub has-defaults : (c : Chart) (h : Histories) → legal_fault c ≡ None → AllOf (IsRecorded c) h → HasDefaults c h
has-defaults c h legal all = record {
  fine = λ d s compound below. all-of-map _ _ (defaults c s) (λ t r. fine-default c h d s t legal all below r.1 r.0)
      (all-pairs _ _ (defaults c s) (compound-defaults c s legal compound) (from-all _ (defaults c s) (defaults_within c s)));
}

-- ---- targets of transitions

fine-history : (c : Chart) (h : Histories) (d t : ℕ) (us : List ℕ) → stands_for c h t ≡ us → AllOf (λ u. is_below c u d ≡ true) us
    → AllOf (IsRecalled c t) us → (is_history c t ≡ true → Within c d (bound_of c d t)) ⊎ (stands_for c h t ≡ [])
fine-history c h d t [] e low recalled = inr e
fine-history c h d t (u ∷ us) e low recalled =
    inl (λ is. within-bound c d (parent_of c t) (is_below c d (parent_of c t)) (by (fork c u d (parent_of c t) low.0 recalled.0.1))) where
      by : (is_below c d (parent_of c t) ≡ true) ⊎ ((is_below c (parent_of c t) d ≡ true) ⊎ (path_of c d ≡ path_of c (parent_of c t)))
          → is_below c d (parent_of c t) ≡ false → Within c d (parent_of c t)
      by (inl below) other = absurd (cc)
      by (inr (inl above)) other = inl above
      by (inr (inr same)) other = inr (sym same)

pub fine-target : (c : Chart) (h : Histories) (d t : ℕ) → legal_fault c ≡ None → AllOf (IsRecorded c) h → t < state_count c
    → AllOf (λ u. is_below c u d ≡ true) (stands_for c h t) → Fine c h d t
fine-target c h d t legal all l low = by (is_history c t) refl where
  by : (v : Bool) → is_history c t ≡ v → Fine c h d t
  by false e =
      let same : stands_for c h t ≡ t ∷ [] = rw e refl in
      fine-state c h d t e (subst (AllOf (λ u. is_below c u d ≡ true)) same low).0
  by true e =
      let recalled = history-states c h t legal all l e in
      record {
        each = all-of-map _ _ (stands_for c h t) (λ u r. (r.1.0, r.0)) (all-pairs _ _ (stands_for c h t) low recalled);
        bound = fine-history c h d t (stands_for c h t) refl low recalled;
      }

-- what holds of all that some items give holds of what each gives
pub all-parts : (P : ℕ → Type 0) (f : ℕ → List ℕ) (ts : List ℕ) → AllOf P (flat_map f ts) → AllOf (λ t. AllOf P (f t)) ts
all-parts P f [] h = tt
all-parts P f (t ∷ ts) h = let parts = front (f t) h in (parts.0, all-parts P f ts parts.1) where
  front : (xs : List ℕ) → AllOf P (xs ++ flat_map f ts) → AllOf P xs × AllOf P (flat_map f ts)
  front [] h = (tt, h)
  front (x ∷ xs) h = let rest = front xs h.1 in ((h.0, rest.0), rest.1)

pub fine-targets : (c : Chart) (before h : Histories) (t : ℕ) → legal_fault c ≡ None → AllOf (IsRecorded c) h → IsAboveTargets c before h t
    → FineTargets c before h t
fine-targets c before h t legal all above = λ d is.
    all-of-map _ _ (targets c t) (λ u r. fine-target c h d u legal all r.1 r.0)
    (all-pairs _ _ (targets c t) (all-parts (λ u. is_below c u d ≡ true) (stands_for c h) (targets c t) (from-all _ (effective_targets c h (targets c t)) (above d is))) (from-all _ (targets c t) (named_within c _)))
