-- The transitions that an active atomic state looks at stand in active states.
use Rattle.std.proofs.Common.{◌≡◌, ℕ, ◌<◌, ◌==◌, Bool, true, false, Some, None, unwrap_or, List, [], ◌∷◌, ◌++◌, flat_map, get_or, length, refl, arith, ap, sym, subst, ◌∙◌}
use Rattle.std.specs.List.{AllByRecursion as AllOf, list_all}
use Rattle.std.proofs.lemmas.Bool.Decides.{nat_tests}
use Rattle.std.proofs.lemmas.Slice.Eq.{bytes_eq-Decides}
use Rattle.sc_base.specs.Ascending.{contains}
use Rattle.sc_types.specs.declared.chart.Chart.{Chart}
use Rattle.sc_law.specs.Nodes.{is_same, parent}
use Rattle.sc_law.specs.Tree.{ancestors, path_of, root, state_count, state_paths}
use Rattle.sc_law.specs.Legality.{legal_fault}
use Rattle.sc_law.specs.Configurations.{IsConfiguration}
use Rattle.sc_law.specs.Transitions.{source, state_at, transition_paths, transitions_of}
use Rattle.sc_law.specs.Selection.{candidates}
use Rattle.sc_tables.proofs.LookUps.{path-is}
use Rattle.sc_tables.proofs.Sources.{position-only}
use Rattle.sc_sets.proofs.Union.Apart.{same-number}
use Rattle.sc_sets.proofs.Union.Below.{all-of-map, all-of-true}
use Rattle.sc_sets.proofs.Union.Forks.{numbers-hold}
use Rattle.sc_sets.proofs.Union.Kept.{active-within, each-has}

false-or : (v w : Bool) → (v ≡ true → w ≡ true) → (w ≡ true → v ≡ true) → v ≡ w
false-or true true f g = refl
false-or true false f g = sym (f refl)
false-or false true f g = g refl
false-or false false f g = refl

-- a state of a legal chart is the only one at its path
state-there : (c : Chart) (s : ℕ) → legal_fault c ≡ None → s < state_count c → state_at c (path_of c s) ≡ s
state-there c s legal l =
    ap (λ o. unwrap_or o (root c)) (position-only (is_same (path_of c s)) (state_paths c) (Some s) l by)
  where
    by : (t : ℕ) → t < length (state_paths c) → is_same (path_of c s) (get_or (state_paths c) t []) ≡ (s == t)
    by t m = false-or (is_same (path_of c s) (get_or (state_paths c) t [])) (s == t)
        (λ h. (let paths : path_of c s ≡ path_of c t = (bytes_eq-Decides (path_of c s)
        (get_or (state_paths c) t [])).0 h ∙ sym (path-is c t) in
        let same : s ≡ t = same-number c s t legal (omega arith) (omega arith) paths in grind (arith, nat_tests)))
        (λ h. (let same : s ≡ t = grind (arith, nat_tests) in
        (bytes_eq-Decides (path_of c s) (get_or (state_paths c) t [])).1 (ap (path_of c) same ∙ path-is c t)))

-- the transitions of a state have it as their source
sources-there : (c : Chart) (s : ℕ) → legal_fault c ≡ None → s < state_count c
    → AllOf (λ t. source c t ≡ s) (transitions_of c s)
sources-there c s legal l =
    numbers-hold (λ t. source c t ≡ s) (λ path. is_same (parent path) (path_of c s)) 0 (transition_paths c)
    (λ k m h. subst (λ t. source c t ≡ s) (omega arith)
    (ap (state_at c) ((bytes_eq-Decides (parent (get_or (transition_paths c) k [])) (path_of c s)).0 h)
    ∙ state-there c s legal l))

all-append : (P : ℕ → Type 0) (xs ys : List ℕ) → AllOf P xs → AllOf P ys → AllOf P (xs ++ ys)
all-append P [] ys h i = i
all-append P (x ∷ xs) ys h i = (h.0, all-append P xs ys h.1 i)

all-flat : (P : ℕ → Type 0) (f : ℕ → List ℕ) (xs : List ℕ) → AllOf (λ x. AllOf P (f x)) xs → AllOf P (flat_map f xs)
all-flat P f [] h = tt
all-flat P f (x ∷ xs) h = all-append P (f x) (flat_map f xs) h.0 (all-flat P f xs h.1)

-- a transition whose source is active
abbrev pub HasActiveSource : Chart → List ℕ → ℕ → Type 0
HasActiveSource c configuration t = contains configuration (source c t) ≡ true

own-active : (c : Chart) (configuration : List ℕ) (s : ℕ) → legal_fault c ≡ None → IsConfiguration c configuration
    → contains configuration s ≡ true → AllOf (HasActiveSource c configuration) (transitions_of c s)
own-active c configuration s legal is active =
    all-of-map (λ t. source c t ≡ s) (HasActiveSource c configuration) (transitions_of c s)
    (λ t e. ap (contains configuration) e ∙ active)
    (sources-there c s legal (active-within c configuration s is active))

-- the transitions that an active state looks at have active sources
pub candidates-active : (c : Chart) (configuration : List ℕ) (s : ℕ) → legal_fault c ≡ None
    → IsConfiguration c configuration
    → contains configuration s ≡ true → AllOf (HasActiveSource c configuration) (candidates c s)
candidates-active c configuration s legal is active =
    all-flat (HasActiveSource c configuration) (transitions_of c) (s ∷ ancestors c s) (
      own-active c configuration s legal is active,
      all-of-map (λ a. contains configuration a ≡ true)
          (λ a. AllOf (HasActiveSource c configuration) (transitions_of c a)) (ancestors c s)
          (λ a above. own-active c configuration a legal is above)
          (all-of-true (contains configuration) (ancestors c s) up),
    )
  where
    up : list_all (contains configuration) (ancestors c s) ≡ true
    up = each-has (λ t. list_all (contains configuration) (ancestors c t) ≡ true) s configuration
        (all-of-true (λ t. list_all (contains configuration) (ancestors c t)) configuration is.upward) active
