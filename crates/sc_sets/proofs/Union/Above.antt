-- What the targets of kept transitions stand for after the exit is below their domains.
use Rattle.std.proofs.Common.{◌≡◌, ◌⊎◌, inl, inr, ℕ, ◌<◌, ◌==◌, ◌&&◌, ◌||◌, not, Bool, true, false, cond, Option, Some, None, unwrap_or, List, [], ◌∷◌, ◌++◌, find, flat_map, length, refl, arith, ap, sym, subst, ◌∙◌}
use Rattle.std.proofs.lemmas.Bool.{cases_lt}
use Rattle.std.proofs.lemmas.Bool.Decides.{nat_tests}
use Rattle.std.specs.List.{AllByRecursion as AllOf, list_any}
use Rattle.std.specs.Option.{option_map_or}
use Rattle.sc_base.specs.Ascending.{contains}
use Rattle.sc_types.specs.declared.chart.Chart.{Chart}
use Rattle.sc_law.specs.Nodes.{leads_on}
use Rattle.sc_law.specs.Tree.{ancestors, is_below, path_of, root, state_count}
use Rattle.sc_law.specs.Kinds.{is_compound, is_history}
use Rattle.sc_law.specs.Legality.{legal_fault}
use Rattle.sc_law.specs.Configurations.{IsConfiguration, defaults, parent_of}
use Rattle.sc_law.specs.Transitions.{is_internal, source, targets}
use Rattle.sc_law.specs.Sets.{Histories, domain, domain_over, effective_targets, exit_set, is_above_all, is_own_domain, leaves, nearest_above, stands_for}
use Rattle.sc_law.specs.Fitting.{IsRecorded}
use Rattle.sc_tables.proofs.Leads.{leads-not-same, leads-shorter}
use Rattle.sc_tables.proofs.Within.{below_root_is, named_within}
use Rattle.sc_sets.specs.Union.{recorded_by}
use Rattle.sc_sets.proofs.Union.Conditions.{HaveApart}
use Rattle.sc_sets.proofs.Union.Below.{all-of-map, all-of-true}
use Rattle.sc_sets.proofs.Union.FineTargets.{all-parts, from-all, history-states}
use Rattle.sc_sets.proofs.Union.Forks.{fork, is-tree}
use Rattle.sc_sets.proofs.Union.Kept.{found-has}
use Rattle.sc_sets.proofs.Union.Parents.{past-root}
use Rattle.sc_sets.proofs.Union.Recorded.{exited-active, record-recorded, value-stays}
use Rattle.sc_sets.proofs.Union.SomeDefaults.{some-stands}

-- a number that is below another is that of a state
pub below-number : (c : Chart) (u p : ℕ) → is_below c u p ≡ true → u < state_count c
below-number c u p h = elim (cases_lt u (state_count c)) [
  | inl l ↦ l
  | inr past ↦
      let root : path_of c u ≡ [] = past-root c u past in
      let long = leads-shorter (path_of c p) (path_of c u) h in
      let short : length (path_of c u) ≡ 0 = ap length root in absurd (omega (arith, long, short))
]

all-three : (u v w : Bool) → (u && v && w) ≡ true → w ≡ true
all-three true true true h = refl
all-three true true false h = absurd (cc)
all-three true false w h = absurd (cc)
all-three false v w h = absurd (cc)

both : (v w : Bool) → (v && w) ≡ true → (v ≡ true) × (w ≡ true)
both true w h = (refl, h)
both false w h = absurd (cc)

-- ---- before the exit

-- the domain of a transition is above what its targets stand for
over-above : (c : Chart) (t d : ℕ) (ss : List ℕ) → legal_fault c ≡ None → AllOf (λ s. s < state_count c) ss → domain_over c t ss ≡ Some d
    → AllOf (λ s. is_below c s d ≡ true) ss
over-above c t d [] legal within e = absurd (cc)
over-above c t d (s ∷ ss) legal within e = by (is_own_domain c t (s ∷ ss)) refl e where
  near : (o : Option ℕ) → find (λ a. is_compound c a && is_above_all c (s ∷ ss) a) (ancestors c (source c t)) ≡ o
      → AllOf (λ u. is_below c u (unwrap_or o (root c)) ≡ true) (s ∷ ss)
  near None f = all-of-map _ _ (s ∷ ss) (λ u l. below_root_is c u legal l) within
  near (Some a) f =
      let passes = (found-has (λ u. Unit) (λ a. is_compound c a && is_above_all c (s ∷ ss) a) (ancestors c (source c t)) a
      (trivial (ancestors c (source c t))) f).1 in
      all-of-true (λ u. is_below c u a) (s ∷ ss) (both (is_compound c a) (is_above_all c (s ∷ ss) a) passes).1
    where
      trivial : (xs : List ℕ) → AllOf (λ u. Unit) xs
      trivial [] = tt
      trivial (x ∷ xs) = (tt, trivial xs)

  by : (v : Bool) → is_own_domain c t (s ∷ ss) ≡ v → Some (cond v (source c t) (nearest_above c (source c t) (s ∷ ss))) ≡ Some d
      → AllOf (λ u. is_below c u d ≡ true) (s ∷ ss)
  by true o e = (let same : source c t ≡ d = cc in
      subst (λ k. AllOf (λ u. is_below c u k ≡ true) (s ∷ ss)) same
      (all-of-true (λ u. is_below c u (source c t)) (s ∷ ss) (all-three (is_internal c t) (is_compound c (source c t)) _ o)))
  by false o e = (let same : nearest_above c (source c t) (s ∷ ss) ≡ d = cc in
      subst (λ k. AllOf (λ u. is_below c u k ≡ true) (s ∷ ss)) same
      (near (find (λ a. is_compound c a && is_above_all c (s ∷ ss) a) (ancestors c (source c t))) refl))

all-join : (P : ℕ → Type 0) (f : ℕ → List ℕ) (ts : List ℕ) → AllOf (λ t. AllOf P (f t)) ts → AllOf P (flat_map f ts)
all-join P f [] h = tt
all-join P f (t ∷ ts) h = front (f t) h.0 (all-join P f ts h.1) where
  front : (xs : List ℕ) → AllOf P xs → AllOf P (flat_map f ts) → AllOf P (xs ++ flat_map f ts)
  front [] h i = i
  front (x ∷ xs) h i = (h.0, front xs h.1 i)

-- what a target stands for are states
pub stands-within : (c : Chart) (h : Histories) (t : ℕ) → legal_fault c ≡ None → AllOf (IsRecorded c) h → t < state_count c
    → AllOf (λ s. s < state_count c) (stands_for c h t)
stands-within c h t legal all l = by (is_history c t) refl where
  by : (v : Bool) → is_history c t ≡ v → AllOf (λ s. s < state_count c) (stands_for c h t)
  by true e = all-of-map _ _ (stands_for c h t) (λ u r. below-number c u (parent_of c t) r.1) (history-states c h t legal all l e)
  by false e = (let same : stands_for c h t ≡ t ∷ [] = rw e refl in subst (AllOf (λ s. s < state_count c)) (sym same) (l, tt))

pub targets-within : (c : Chart) (t : ℕ) → AllOf (λ s. s < state_count c) (targets c t)
targets-within c t = from-all _ (targets c t) (named_within c _)

-- the targets of a transition stand for states below its domain
pub domain-above : (c : Chart) (h : Histories) (t d : ℕ) → legal_fault c ≡ None → AllOf (IsRecorded c) h → domain c h t ≡ Some d
    → AllOf (λ s. is_below c s d ≡ true) (effective_targets c h (targets c t))
unfolding domain
domain-above c h t d legal all e =
    over-above c t d (effective_targets c h (targets c t)) legal
    (all-join (λ s. s < state_count c) (stands_for c h) (targets c t)
    (all-of-map _ _ (targets c t) (λ u l. stands-within c h u legal all l) (targets-within c t))) e

-- ---- after the exit

-- of any two of these transitions the domains are apart, or they are the same transition
abbrev pub AnyApart : Chart → Histories → List ℕ → Type 0
AnyApart c h ts = (t u : ℕ) → contains ts t ≡ true → contains ts u ≡ true → (t ≡ u) ⊎ (HaveApart c h t u ⊎ HaveApart c h u t)

apart-parts : (u v w : Bool) → (not u && not v && not w) ≡ true → (v ≡ false) × (w ≡ false)
apart-parts false false false h = (refl, refl)
apart-parts false false true h = absurd (cc)
apart-parts false true w h = absurd (cc)
apart-parts true v w h = absurd (cc)

-- no domain is below another, or itself
pub never-below : (c : Chart) (h : Histories) (ts : List ℕ) (t u d e : ℕ) → AnyApart c h ts → contains ts t ≡ true → contains ts u ≡ true
    → domain c h t ≡ Some d → domain c h u ≡ Some e → is_below c d e ≡ true → ⊥
never-below c h ts t u d e apart in_t in_u is also below = by (apart t u in_t in_u) where
  by : (t ≡ u) ⊎ (HaveApart c h t u ⊎ HaveApart c h u t) → ⊥
  by (inl same) =
      let one : Some d ≡ Some e = sym is ∙ ap (domain c h) same ∙ also in
      let eq : d ≡ e = cc in
      let no = leads-not-same (path_of c d) in
      let yes : is_below c d d ≡ true = subst (λ k. is_below c d k ≡ true) (sym eq) below in cc
  by (inr (inl have)) = let no = (apart-parts (d == e) (is_below c d e) (is_below c e d) (have d e is also)).0 in cc
  by (inr (inr have)) = let no = (apart-parts (e == d) (is_below c e d) (is_below c d e) (have e d also is)).1 in cc

-- one of these transitions leaves the state
pub leaver : (c : Chart) (h : Histories) (p : ℕ) (ts : List ℕ) → list_any (λ t. leaves c h t p) ts ≡ true
    → (u : ℕ) × ((contains ts u ≡ true) × ((e : ℕ) × ((domain c h u ≡ Some e) × (is_below c p e ≡ true))))
leaver c h p [] any = absurd (cc)
leaver c h p (t ∷ ts) any = by (leaves c h t p) refl any (leaver c h p ts) where
  domain-of : (o : Option ℕ) → option_map_or (is_below c p) o false ≡ true → (e : ℕ) × ((o ≡ Some e) × (is_below c p e ≡ true))
  domain-of None h = absurd (cc)
  domain-of (Some e) h = (e, (refl, h))

  by : (v : Bool) → leaves c h t p ≡ v → (v || list_any (λ t. leaves c h t p) ts) ≡ true
      → (list_any (λ t. leaves c h t p) ts ≡ true → (u : ℕ) × ((contains ts u ≡ true) × ((e : ℕ) × ((domain c h u ≡ Some e) × (is_below c p e ≡ true)))))
      → (u : ℕ) × ((contains (t ∷ ts) u ≡ true) × ((e : ℕ) × ((domain c h u ≡ Some e) × (is_below c p e ≡ true))))
  by true f any so = (t, (here, domain-of (domain c h t) f)) where
    here : contains (t ∷ ts) t ≡ true
    here = let hit : (t == t) ≡ true = grind (arith, nat_tests) in ap (λ v. v || contains ts t) hit
  by false f any so = let r = so any in (r.0, (later (t == r.0) r.0 r.1.0, r.1.1)) where
    later : (v : Bool) (n : ℕ) → contains ts n ≡ true → (v || contains ts n) ≡ true
    later true n h = refl
    later false n h = h

-- a microstep of transitions with domains apart
pub record IsLeft (c : Chart) (h : Histories) (ts configuration : List ℕ) : Type 0 where
  pub legal : legal_fault c ≡ None
  pub configured : IsConfiguration c configuration
  pub recorded : AllOf (IsRecorded c) h
  pub apart : AnyApart c h ts

pub recorded-after : (c : Chart) (h : Histories) (ts configuration : List ℕ) → IsLeft c h ts configuration → AllOf (IsRecorded c) (recorded_by c h ts configuration)
recorded-after c h ts configuration is =
    record-recorded c configuration (exit_set c h ts configuration) h is.configured (λ p e. (exited-active c h ts configuration p e).0) is.recorded

-- a history whose parent is exited stands for states below the domain
left-above : (c : Chart) (h : Histories) (ts configuration : List ℕ) (t d s : ℕ) → IsLeft c h ts configuration → contains ts t ≡ true
    → domain c h t ≡ Some d → s < state_count c → is_history c s ≡ true → contains (exit_set c h ts configuration) (parent_of c s) ≡ true
    → AllOf (λ u. is_below c u d ≡ true) (stands_for c h s) → AllOf (λ u. is_below c u d ≡ true) (stands_for c (recorded_by c h ts configuration) s)
left-above c h ts configuration t d s is in_t has l history gone low =
    all-of-map _ _ (stands_for c (recorded_by c h ts configuration) s) (λ u r. on u r.1)
    (history-states c (recorded_by c h ts configuration) s is.legal (recorded-after c h ts configuration is) l history)
  where
    some : (u : ℕ) × ((us : List ℕ) × (stands_for c h s ≡ u ∷ us))
    some = some-stands c h s is.legal l history

    low_one : is_below c some.0 d ≡ true
    low_one = (subst (AllOf (λ u. is_below c u d ≡ true)) some.1.1 low).0

    old_one : is_below c some.0 (parent_of c s) ≡ true
    old_one = (subst (AllOf (λ u. (is_history c u ≡ false) × (is_below c u (parent_of c s) ≡ true))) some.1.1 (history-states c h s is.legal is.recorded l history)).0.1

    other : (u : ℕ) × ((contains ts u ≡ true) × ((e : ℕ) × ((domain c h u ≡ Some e) × (is_below c (parent_of c s) e ≡ true))))
    other = leaver c h (parent_of c s) ts (exited-active c h ts configuration (parent_of c s) gone).1

    on : (u : ℕ) → is_below c u (parent_of c s) ≡ true → is_below c u d ≡ true
    on u below = by (fork c some.0 d (parent_of c s) low_one old_one) where
      by : (is_below c d (parent_of c s) ≡ true) ⊎ ((is_below c (parent_of c s) d ≡ true) ⊎ (path_of c d ≡ path_of c (parent_of c s))) → is_below c u d ≡ true
      by (inl deeper) = absurd (never-below c h ts t other.0 d other.1.1.0 is.apart in_t other.1.0 has other.1.1.1.0
          ((is-tree c).on d (parent_of c s) other.1.1.0 deeper other.1.1.1.1))
      by (inr (inl under)) = (is-tree c).on u (parent_of c s) d below under
      by (inr (inr same)) = ap (λ p. leads_on p (path_of c u)) same ∙ below

-- what a target stands for after the exit is below the domain
target-above : (c : Chart) (h : Histories) (ts configuration : List ℕ) (t d s : ℕ) → IsLeft c h ts configuration → contains ts t ≡ true
    → domain c h t ≡ Some d → s < state_count c → AllOf (λ u. is_below c u d ≡ true) (stands_for c h s)
    → AllOf (λ u. is_below c u d ≡ true) (stands_for c (recorded_by c h ts configuration) s)
target-above c h ts configuration t d s is in_t has l low = by (is_history c s) (contains (exit_set c h ts configuration) (parent_of c s)) refl refl where
  by : (v w : Bool) → is_history c s ≡ v → contains (exit_set c h ts configuration) (parent_of c s) ≡ w
      → AllOf (λ u. is_below c u d ≡ true) (stands_for c (recorded_by c h ts configuration) s)
  by false w f g = (let same : stands_for c (recorded_by c h ts configuration) s ≡ stands_for c h s = rw f refl in subst (AllOf (λ u. is_below c u d ≡ true)) (sym same) low)
  by true true f g = left-above c h ts configuration t d s is in_t has l f g low
  by true false f g =
      (let value = value-stays c configuration (exit_set c h ts configuration) h s l f g in
      let same : stands_for c (recorded_by c h ts configuration) s ≡ stands_for c h s =
      ap (λ (o : Option (List ℕ)). cond (is_history c s) (unwrap_or o (defaults c s)) (s ∷ [])) value in
      subst (AllOf (λ u. is_below c u d ≡ true)) (sym same) low)

-- what the targets of a transition stand for after the exit is below its domain
pub above-after : (c : Chart) (h : Histories) (ts configuration : List ℕ) (t d : ℕ) → IsLeft c h ts configuration → contains ts t ≡ true
    → domain c h t ≡ Some d → AllOf (λ u. is_below c u d ≡ true) (effective_targets c (recorded_by c h ts configuration) (targets c t))
above-after c h ts configuration t d is in_t has =
    all-join (λ u. is_below c u d ≡ true) (stands_for c (recorded_by c h ts configuration)) (targets c t)
    (all-pairs-of (targets c t) (λ s l low. target-above c h ts configuration t d s is in_t has l low) (targets-within c t)
    (all-parts (λ u. is_below c u d ≡ true) (stands_for c h) (targets c t) (domain-above c h t d is.legal is.recorded has)))
  where
    all-pairs-of : {P Q R : ℕ → Type 0} (ss : List ℕ) → ((s : ℕ) → P s → Q s → R s) → AllOf P ss → AllOf Q ss → AllOf R ss
    all-pairs-of [] f h i = tt
    all-pairs-of (s ∷ ss) f h i = (f s h.0 i.0, all-pairs-of ss f h.1 i.1)
