-- Transitions that selection kept in a legal configuration have domains apart.
use Rattle.std.proofs.Common.{◌≡◌, ℕ, ◌<◌, ◌==◌, ◌&&◌, ◌||◌, not, nat_eq, nat_lt, Bool, true, false, cond, Option, Some, None, unwrap_or, List, [], ◌∷◌, filter, find, length, refl, arith, ap, ap₂, subst, ◌∙◌}
use Rattle.std.proofs.lemmas.Bool.Decides.{nat_tests}
use Rattle.std.specs.List.{list_any}
use Rattle.std.specs.Option.{option_map_or}
use Rattle.sc_base.specs.Ascending.{contains}
use Rattle.sc_types.specs.declared.chart.Chart.{Chart}
use Rattle.sc_law.specs.Nodes.{leads_on}
use Rattle.sc_law.specs.Tree.{ancestors, is_below, numbers_where, path_of, root, state_count, state_paths}
use Rattle.sc_law.specs.Kinds.{is_compound, is_history}
use Rattle.sc_law.specs.Legality.{legal_fault}
use Rattle.sc_law.specs.Configurations.{IsConfiguration, active_children, children}
use Rattle.sc_law.specs.Transitions.{is_internal, source, targets}
use Rattle.sc_law.specs.Sets.{Histories, domain, domain_over, effective_targets, is_above_all, is_own_domain, leaves, nearest_above}
use Rattle.sc_law.specs.Selection.{conflicts}
use Rattle.sc_tables.proofs.LookUps.{path-is}
use Rattle.sc_tables.proofs.Within.{below_root_is}
use Rattle.sc_sets.proofs.Union.Conditions.{HaveApart}
use Rattle.sc_sets.proofs.Union.Apart.{all-reverse}
use Rattle.std.specs.List.{AllByRecursion as AllOf}
use Rattle.sc_sets.proofs.Union.Below.{all-of-map, all-of-true}
use Rattle.sc_sets.proofs.Union.Forks.{filter-hold, is-tree, numbers-hold}

both : (v w : Bool) → (v && w) ≡ true → (v ≡ true) × (w ≡ true)
both true w h = (refl, h)
both false w h = absurd (cc)

all-three : (u v w : Bool) → (u && v && w) ≡ true → (u ≡ true) × ((v ≡ true) × (w ≡ true))
all-three true true true h = (refl, (refl, refl))
all-three true true false h = absurd (cc)
all-three true false w h = absurd (cc)
all-three false v w h = absurd (cc)

none-of : (test : ℕ → Bool) (xs : List ℕ) → list_any test xs ≡ false → AllOf (λ x. test x ≡ false) xs
none-of test [] h = tt
none-of test (x ∷ xs) h = by (test x) refl h (none-of test xs) where
  by : (v : Bool) → test x ≡ v → (v || list_any test xs) ≡ false → (list_any test xs ≡ false → AllOf (λ y. test y ≡ false) xs)
      → (test x ≡ false) × AllOf (λ y. test y ≡ false) xs
  by true e h so = absurd (cc)
  by false e h so = (e, so h)

-- what each has, one of them has
pub each-has : (P : ℕ → Type 0) (s : ℕ) (ss : List ℕ) → AllOf P ss → contains ss s ≡ true → P s
each-has P s [] all h = absurd (cc)
each-has P s (t ∷ ss) all h = by (t == s) refl h (each-has P s ss all.1) where
  by : (v : Bool) → (t == s) ≡ v → (v || contains ss s) ≡ true → (contains ss s ≡ true → P s) → P s
  by true e h so = (let same : t ≡ s = grind (arith, nat_tests) in subst P same all.0)
  by false e h so = so h

-- the states of a legal configuration are states
pub active-within : (c : Chart) (configuration : List ℕ) (s : ℕ) → IsConfiguration c configuration → contains configuration s ≡ true
    → s < state_count c
active-within c configuration s is h =
    each-has (λ t. t < state_count c) s configuration
    (all-of-map _ _ configuration (λ t e. let l = (both (nat_lt t (state_count c)) (not (is_history c t)) e).0 in grind (arith, nat_tests))
    (all-of-true (λ t. nat_lt t (state_count c) && not (is_history c t)) configuration is.states)) h

pub ancestors-above : (c : Chart) (s : ℕ) → AllOf (λ a. is_below c s a ≡ true) (ancestors c s)
ancestors-above c s =
    all-reverse _ (numbers_where (λ path. leads_on path (path_of c s)) 0 (state_paths c))
    (numbers-hold (λ a. is_below c s a ≡ true) (λ path. leads_on path (path_of c s)) 0 (state_paths c)
    (λ k l h. subst (λ n. is_below c s n ≡ true) (omega arith) (ap (λ p. leads_on p (path_of c s)) (path-is c k) ∙ h)))

-- what a search finds is among the items, and passes
pub found-has : (P : ℕ → Type 0) (test : ℕ → Bool) (ss : List ℕ) (m : ℕ) → AllOf P ss → find test ss ≡ Some m → P m × (test m ≡ true)
found-has P test [] m all e = absurd (cc)
found-has P test (s ∷ ss) m all e = by (test s) refl e (found-has P test ss m all.1) where
  by : (v : Bool) → test s ≡ v → cond v (Some s) (find test ss) ≡ Some m → (find test ss ≡ Some m → P m × (test m ≡ true)) → P m × (test m ≡ true)
  by true f e so = (let same : s ≡ m = cc in (subst P same all.0, subst (λ k. test k ≡ true) same f))
  by false f e so = so e

-- the nearest state above all of some targets, or the root
nearest-is : (c : Chart) (s : ℕ) (ss : List ℕ) → legal_fault c ≡ None → s < state_count c → is_below c s (nearest_above c s ss) ≡ true
nearest-is c s ss legal l = by (find (λ a. is_compound c a && is_above_all c ss a) (ancestors c s)) refl where
  by : (o : Option ℕ) → find (λ a. is_compound c a && is_above_all c ss a) (ancestors c s) ≡ o → is_below c s (unwrap_or o (root c)) ≡ true
  by None e = below_root_is c s legal l
  by (Some a) e = (found-has (λ a. is_below c s a ≡ true) _ (ancestors c s) a (ancestors-above c s) e).0

-- a state of a legal configuration that stands below the domain
abbrev pub HasActive : Chart → List ℕ → ℕ → Type 0
HasActive c configuration d = (s : ℕ) × ((contains configuration s ≡ true) × (is_below c s d ≡ true))

some-kept : (test : ℕ → Bool) (P : ℕ → Type 0) (ss : List ℕ) → AllOf P ss → length (filter test ss) ≡ 1 → (s : ℕ) × ((test s ≡ true) × P s)
some-kept test P ss all one = by (filter test ss) (filter-hold P test ss all) one where
  by : (ts : List ℕ) → AllOf (λ s. (test s ≡ true) × P s) ts → length ts ≡ 1 → (s : ℕ) × ((test s ≡ true) × P s)
  by [] h one = absurd (omega (arith, one))
  by (t ∷ ts) h one = (t, h.0)

-- an active compound state has an active child
active-child : (c : Chart) (configuration : List ℕ) (s : ℕ) → IsConfiguration c configuration → contains configuration s ≡ true
    → is_compound c s ≡ true → HasActive c configuration s
active-child c configuration s is active compound =
    let at : (not (is_compound c s) || nat_eq (length (active_children c configuration s)) 1) ≡ true =
    each-has (λ t. (not (is_compound c t) || nat_eq (length (active_children c configuration t)) 1) ≡ true) s configuration
    (all-of-true (λ t. not (is_compound c t) || nat_eq (length (active_children c configuration t)) 1) configuration is.one) active in
    let one : length (active_children c configuration s) ≡ 1 = (let n = one-of (is_compound c s) _ at compound in grind (arith, nat_tests)) in
    let kid = some-kept (contains configuration) (λ k. is_below c k s ≡ true) (children c s)
    (all-of-map _ _ (children c s) (λ k t. t.1) ((is-tree c).kids s)) one in
    kid
  where
    one-of : (v w : Bool) → (not v || w) ≡ true → v ≡ true → w ≡ true
    one-of true w h e = h
    one-of false w h e = absurd (cc)

over-active : (c : Chart) (configuration : List ℕ) (t d : ℕ) (ss : List ℕ) → legal_fault c ≡ None → IsConfiguration c configuration
    → contains configuration (source c t) ≡ true → domain_over c t ss ≡ Some d → HasActive c configuration d
over-active c configuration t d [] legal is active e = absurd (cc)
over-active c configuration t d (s ∷ ss) legal is active e = by (is_own_domain c t (s ∷ ss)) refl e where
  compound : is_own_domain c t (s ∷ ss) ≡ true → is_compound c (source c t) ≡ true
  compound h = (all-three (is_internal c t) (is_compound c (source c t)) (is_above_all c (s ∷ ss) (source c t)) h).1.0

  by : (v : Bool) → is_own_domain c t (s ∷ ss) ≡ v → Some (cond v (source c t) (nearest_above c (source c t) (s ∷ ss))) ≡ Some d → HasActive c configuration d
  by true o e = (let same : source c t ≡ d = cc in
      subst (HasActive c configuration) same (active-child c configuration (source c t) is active (compound o)))
  by false o e = (let same : nearest_above c (source c t) (s ∷ ss) ≡ d = cc in (
    source c t,
    (
      active,
      subst (λ k. is_below c (source c t) k ≡ true) same
          (nearest-is c (source c t) (s ∷ ss) legal (active-within c configuration (source c t) is active)),
    ),
  ))

-- where the source is active, some active state is below the domain
pub domain-active : (c : Chart) (h : Histories) (configuration : List ℕ) (t d : ℕ) → legal_fault c ≡ None → IsConfiguration c configuration
    → contains configuration (source c t) ≡ true → domain c h t ≡ Some d → HasActive c configuration d
unfolding domain
domain-active c h configuration t d legal is active e = over-active c configuration t d (effective_targets c h (targets c t)) legal is active e

-- ---- without conflicts

no-conflict : (c : Chart) (h : Histories) (configuration : List ℕ) (t u d e s : ℕ) → conflicts c h configuration t u ≡ false
    → domain c h t ≡ Some d → domain c h u ≡ Some e → contains configuration s ≡ true → is_below c s d ≡ true → is_below c s e ≡ true → ⊥
no-conflict c h configuration t u d e s none is also active below other =
    let leaves_t : leaves c h t s ≡ true = ap (λ o. option_map_or (is_below c s) o false) is ∙ below in
    let leaves_u : leaves c h u s ≡ true = ap (λ o. option_map_or (is_below c s) o false) also ∙ other in
    let no : (leaves c h t s && leaves c h u s) ≡ false =
    each-has (λ x. (leaves c h t x && leaves c h u x) ≡ false) s configuration
    (none-of (λ x. leaves c h t x && leaves c h u x) configuration none) active in
    let yes : (leaves c h t s && leaves c h u s) ≡ true = ap₂ (λ v w. v && w) leaves_t leaves_u in absurd-both no yes
  where
    absurd-both : {v : Bool} → v ≡ false → v ≡ true → ⊥
    absurd-both f t = cc

-- transitions with active sources whose exit sets do not meet have domains apart
pub kept-apart : (c : Chart) (h : Histories) (configuration : List ℕ) (t u : ℕ) → legal_fault c ≡ None → IsConfiguration c configuration
    → contains configuration (source c t) ≡ true → contains configuration (source c u) ≡ true → conflicts c h configuration t u ≡ false
    → HaveApart c h t u
kept-apart c h configuration t u legal is active also none d e one other =
    let s = domain-active c h configuration t d legal is active one in
    let r = domain-active c h configuration u e legal is also other in
    apart-is (d == e) (is_below c d e) (is_below c e d)
    (λ same. (let eq : d ≡ e = grind (arith, nat_tests) in
    no-conflict c h configuration t u d e s.0 none one other s.1.0 s.1.1 (subst (λ k. is_below c s.0 k ≡ true) eq s.1.1)))
    (λ below. no-conflict c h configuration t u d e s.0 none one other s.1.0 s.1.1 ((is-tree c).on s.0 d e s.1.1 below))
    (λ above. no-conflict c h configuration t u d e r.0 none one other r.1.0 ((is-tree c).on r.0 e d r.1.1 above) r.1.1)
  where
    apart-is : (v w x : Bool) → (v ≡ true → ⊥) → (w ≡ true → ⊥) → (x ≡ true → ⊥) → (not v && not w && not x) ≡ true
    apart-is true w x f g h = absurd (f refl)
    apart-is false true x f g h = absurd (g refl)
    apart-is false false true f g h = absurd (h refl)
    apart-is false false false f g h = refl
