-- A configuration that is filled anew below some domains is legal.
use Rattle.std.proofs.Common.{◌≡◌, ◌⊎◌, inl, inr, ℕ, ◌<◌, ◌≤◌, ◌&&◌, ◌||◌, not, nat_eq, nat_lt, Bool, true, false, None, List, length, refl, arith, ap, sym, subst, ◌∙◌}
use Rattle.std.proofs.lemmas.Bool.Decides.{nat_tests}
use Rattle.std.specs.List.{list_all}
use Rattle.sc_base.specs.Ascending.{contains}
use Rattle.sc_types.specs.declared.chart.Chart.{Chart}
use Rattle.sc_law.specs.Tree.{ancestors, is_below, root, state_count}
use Rattle.sc_law.specs.Kinds.{is_compound, is_history, is_parallel}
use Rattle.sc_law.specs.Legality.{legal_fault}
use Rattle.sc_law.specs.Configurations.{IsConfiguration, active_children, children}
use Rattle.sc_law.specs.Entry.{EntryTriple, is_begun}
use Rattle.sc_sets.proofs.Union.Above.{below-number}
use Rattle.sc_law_theorems.proofs.Legal.Downs.{not-both}
use Rattle.sc_law_theorems.proofs.Legal.Filling.{IsFilling}
use Rattle.sc_law_theorems.proofs.Legal.Gains.{BelowOf, Has, IsFilled, begun-some}
use Rattle.sc_law_theorems.proofs.Legal.Lists.{and-both, filter-equal, list-all-by, one-passes}
use Rattle.sc_law_theorems.proofs.Legal.Meets.{HasOne}
use Rattle.sc_law_theorems.proofs.Legal.Tree.{IsKid, Under, above-on, ancestor-is, below-under, between, forks, kid-is, kid-to, kids-ascend}

-- domains, with what is entered below each
abbrev pub Domains : Type 1
Domains = ℕ → EntryTriple → Type 0

-- a state among others
abbrev pub IsMember : List ℕ → ℕ → Type 0
IsMember ss s = contains ss s ≡ true

-- no domain is above the state
abbrev pub IsKept : Chart → Domains → ℕ → Type 0
IsKept c dom s = (d : ℕ) (f : EntryTriple) → dom d f → is_below c s d ≡ true → ⊥

-- A configuration before and after. The states before may be none at all, where the root is a domain.
pub record IsPlan (c : Chart) (dom : Domains) (before after : List ℕ) : Type 0 where
  pub legal : legal_fault c ≡ None
  -- the states before
  pub states : (s : ℕ) → IsMember before s → (s < state_count c) × (is_history c s ≡ false)
  pub upward : (s a : ℕ) → IsMember before s → a < state_count c → is_below c s a ≡ true → IsMember before a
  pub one : (s : ℕ) → IsMember before s → is_compound c s ≡ true → length (active_children c before s) ≡ 1
  pub each : (s k : ℕ) → IsMember before s → is_parallel c s ≡ true → contains (children c s) k ≡ true
      → IsMember before k
  pub top : ((f : EntryTriple) → dom (root c) f → ⊥) → length (active_children c before (root c)) ≡ 1
  -- the domains
  pub within : (d : ℕ) (f : EntryTriple) → dom d f → d ≤ state_count c
  pub has_one : (d : ℕ) (f : EntryTriple) → dom d f → HasOne c d
  pub filling : (d : ℕ) (f : EntryTriple) → dom d f → IsFilling c d f
  pub active : (d : ℕ) (f : EntryTriple) → dom d f → d < state_count c → IsMember before d
  pub apart : (d e : ℕ) (f g : EntryTriple) → dom d f → dom e g → is_below c d e ≡ true → ⊥
  pub same : (d : ℕ) (f g : EntryTriple) → dom d f → dom d g → f ≡ g
  pub decided : (s : ℕ) → ((f : EntryTriple) × dom s f) ⊎ ((f : EntryTriple) → dom s f → ⊥)
  -- the states after
  pub old : (s : ℕ) → IsMember before s → IsKept c dom s → IsMember after s
  pub new : (s d : ℕ) (f : EntryTriple) → dom d f → Has f s → IsMember after s
  pub cases : (s : ℕ) → IsMember after s
      → ((IsMember before s) × IsKept c dom s) ⊎ ((d : ℕ) × ((f : EntryTriple) × ((dom d f) × Has f s)))

-- what is below two domains is below one
one-domain : (c : Chart) (dom : Domains) (before after : List ℕ) (s d e : ℕ) (f g : EntryTriple)
    → IsPlan c dom before after → dom d f → dom e g
    → is_below c s d ≡ true → is_below c s e ≡ true → f ≡ g
one-domain c dom before after s d e f g plan is also h i =
    elim (forks c s d e plan.legal (plan.within d f is) (plan.within e g also) h i) [
      | inl low ↦ absurd (plan.apart d e f g is also low)
      | inr o ↦ elim o [
        | inl high ↦ absurd (plan.apart e d g f also is high)
        | inr e_is ↦ plan.same d f g is (subst (λ k. dom k g) (sym e_is) also)
      ]
    ]

-- ---- children

-- a domain, and a state that is entered below one, has one active child
one-new : (c : Chart) (dom : Domains) (before after : List ℕ) (s d : ℕ) (f : EntryTriple) → IsPlan c dom before after
    → dom d f → s ≤ state_count c
    → Under c s d → HasOne c s → is_begun c f s ≡ true → length (active_children c after s) ≡ 1
one-new c dom before after s d f plan is m under one begun =
    one-passes (contains after) 0 (children c s) to.0 (kids-ascend c s) to.1.0 (plan.new to.0 d f is has) only
  where
    some : (x : ℕ) × ((Has f x) × (is_below c x s ≡ true))
    some = begun-some c f s begun

    to : (k : ℕ) × ((contains (children c s) k ≡ true) × Under c some.0 k)
    to = kid-to c s some.0 plan.legal m ((plan.filling d f is).filled some.0 some.1.0).done.state some.1.1

    kid : IsKid c s to.0
    kid = kid-is c s to.0 plan.legal m to.1.0

    has : Has f to.0
    has = ((plan.filling d f is).filled some.0 some.1.0).held to.0 to.1.1 (below-under c to.0 s d kid.below under)

    only : (y : ℕ) → contains (children c s) y ≡ true → IsMember after y → y ≡ to.0
    only y i on = by (plan.cases y on) where
      other : IsKid c s y
      other = kid-is c s y plan.legal m i

      low : is_below c y d ≡ true
      low = below-under c y s d other.below under

      by : ((IsMember before y) × IsKept c dom y) ⊎ ((e : ℕ) × ((g : EntryTriple) × ((dom e g) × Has g y))) → y ≡ to.0
      by (inl kept) = absurd (kept.1 d f is low)
      by (inr from) =
          let e = from.0 in
          let g = from.1.0 in
          let eq = one-domain c dom before after y e d g f plan from.1.1.0 is
          ((plan.filling e g from.1.1.0).filled y from.1.1.1).inside low in
          let own : Has f y = subst (λ (x : EntryTriple). Has x y) eq from.1.1.1 in
          ((plan.filling d f is).calm y to.0 own has).same s y to.0 one m other kid (inl refl) (inl refl)

both-ways : (v w : Bool) → (v ≡ true → w ≡ true) → (w ≡ true → v ≡ true) → v ≡ w
both-ways true w h i = sym (h refl)
both-ways false true h i = i refl
both-ways false false h i = refl

-- no domain is the state, or above it
abbrev IsOutside : Chart → Domains → ℕ → Type 0
IsOutside c dom s = (d : ℕ) (f : EntryTriple) → dom d f → Under c s d → ⊥

-- the children of a state outside the domains stay as they are
kids-kept : (c : Chart) (dom : Domains) (before after : List ℕ) (s k : ℕ) → IsPlan c dom before after
    → s ≤ state_count c → IsOutside c dom s
    → contains (children c s) k ≡ true → IsKept c dom k
kids-kept c dom before after s k plan m outside i d f is low =
    let kid = kid-is c s k plan.legal m i in
    outside d f is (subst (λ p. Under c p d) kid.parent (between c k d plan.legal kid.number (plan.within d f is) low))

same-kids : (c : Chart) (dom : Domains) (before after : List ℕ) (s : ℕ) → IsPlan c dom before after → s ≤ state_count c
    → IsOutside c dom s
    → active_children c after s ≡ active_children c before s
same-kids c dom before after s plan m outside =
    filter-equal (contains after) (contains before) (children c s)
    (λ k i. both-ways (contains after k) (contains before k) (to k i)
    (λ on. plan.old k on (kids-kept c dom before after s k plan m outside i)))
  where
    to : (k : ℕ) → contains (children c s) k ≡ true → IsMember after k → IsMember before k
    to k i on = elim (plan.cases k on) [
      | inl kept ↦ kept.0
      | inr from ↦ absurd (kids-kept c dom before after s k plan m outside i from.0 from.1.0 from.1.1.0
          ((plan.filling from.0 from.1.0 from.1.1.0).filled k from.1.1.1).inside)
    ]

-- a state that stays has one active child
one-kept : (c : Chart) (dom : Domains) (before after : List ℕ) (s : ℕ) → IsPlan c dom before after → s ≤ state_count c
    → HasOne c s → IsKept c dom s
    → (((f : EntryTriple) → dom s f → ⊥) → length (active_children c before s) ≡ 1)
    → length (active_children c after s) ≡ 1
one-kept c dom before after s plan m one kept was = elim (plan.decided s) [
  | inl is ↦ one-new c dom before after s s is.0 plan is.1 m (inl refl) one (plan.filling s is.0 is.1).begun
  | inr not-it ↦ ap length (same-kids c dom before after s plan m (λ d f on under. outside not-it d f on under))
      ∙ was not-it
] where
  outside : ((f : EntryTriple) → dom s f → ⊥) → (d : ℕ) (f : EntryTriple) → dom d f → Under c s d → ⊥
  outside not-it d f on (inl e) = not-it f (subst (λ k. dom k f) (sym e) on)
  outside not-it d f on (inr low) = kept d f on low

-- ---- the parts of a legal configuration

not-or : (v w : Bool) → (v ≡ true → w ≡ true) → (not v || w) ≡ true
not-or true w h = h refl
not-or false w h = refl

plan-states : (c : Chart) (dom : Domains) (before after : List ℕ) (s : ℕ) → IsPlan c dom before after → IsMember after s
    → (s < state_count c) × (is_history c s ≡ false)
plan-states c dom before after s plan on = elim (plan.cases s on) [
  | inl kept ↦ plan.states s kept.0
  | inr from ↦ (let is = (plan.filling from.0 from.1.0 from.1.1.0).filled s from.1.1.1 in
      (below-number c s from.0 is.inside, is.done.state))
]

plan-upward : (c : Chart) (dom : Domains) (before after : List ℕ) (s a : ℕ) → IsPlan c dom before after
    → IsMember after s → a < state_count c
    → is_below c s a ≡ true → IsMember after a
plan-upward c dom before after s a plan on l high = elim (plan.cases s on) [
  | inl kept ↦ plan.old a (plan.upward s a kept.0 l high) (λ d f is low. kept.1 d f is (above-on c s a d high low))
  | inr from ↦ inner from.0 from.1.0 from.1.1.0 from.1.1.1
] where
  over : (d : ℕ) (f : EntryTriple) → dom d f → Under c d a → IsMember after a
  over d f is (inl e) = plan.old a (subst (IsMember before) e (plan.active d f is (omega (arith, e))))
      (λ x g also low. plan.apart d x f g is also (subst (λ k. is_below c k x ≡ true) (sym e) low))
  over d f is (inr low) = plan.old a (plan.upward d a (plan.active d f is (below-number c d a low)) l low)
      (λ x g also deep. plan.apart d x f g is also (above-on c d a x low deep))

  inner : (d : ℕ) (f : EntryTriple) → dom d f → Has f s → IsMember after a
  inner d f is has = by (forks c s a d plan.legal (omega arith) (plan.within d f is) high filled.inside) where
    filled : IsFilled c (BelowOf c d) s f
    filled = (plan.filling d f is).filled s has

    by : (is_below c a d ≡ true) ⊎ ((is_below c d a ≡ true) ⊎ (a ≡ d)) → IsMember after a
    by (inl low) = plan.new a d f is (filled.held a (inr high) low)
    by (inr (inl deep)) = over d f is (inr deep)
    by (inr (inr e)) = over d f is (inl (sym e))

plan-one : (c : Chart) (dom : Domains) (before after : List ℕ) (s : ℕ) → IsPlan c dom before after → IsMember after s
    → is_compound c s ≡ true
    → length (active_children c after s) ≡ 1
plan-one c dom before after s plan on compound = elim (plan.cases s on) [
  | inl kept ↦ one-kept c dom before after s plan within (inl compound) kept.1 (λ out. plan.one s kept.0 compound)
  | inr from ↦ (let is = (plan.filling from.0 from.1.0 from.1.1.0).filled s from.1.1.1 in
      one-new c dom before after s from.0 from.1.0 plan from.1.1.0 within (inr is.inside) (inl compound)
      (is.done.compound compound))
] where
  within : s ≤ state_count c
  within = let l = (plan-states c dom before after s plan on).0 in omega arith

plan-root : (c : Chart) (dom : Domains) (before after : List ℕ) → IsPlan c dom before after
    → length (active_children c after (root c)) ≡ 1
plan-root c dom before after plan =
    one-kept c dom before after (root c) plan (omega arith) (inr refl)
    (λ d f is low. (let l = below-number c (root c) d low in omega arith)) plan.top

plan-each : (c : Chart) (dom : Domains) (before after : List ℕ) (s k : ℕ) → IsPlan c dom before after → IsMember after s
    → is_parallel c s ≡ true
    → contains (children c s) k ≡ true → IsMember after k
plan-each c dom before after s k plan on parallel i = elim (plan.cases s on) [
  | inl kept ↦ plan.old k (plan.each s k kept.0 parallel i)
      (kids-kept c dom before after s k plan within (outside kept.1) i)
  | inr from ↦ inner from.0 from.1.0 from.1.1.0 from.1.1.1
] where
  number : s < state_count c
  number = (plan-states c dom before after s plan on).0

  within : s ≤ state_count c
  within = let l = number in omega arith

  not-one : HasOne c s → ⊥
  not-one (inl compound) = not-both c s compound parallel
  not-one (inr e) = let l = number in omega arith

  outside : IsKept c dom s → IsOutside c dom s
  outside kept d f is (inl e) = not-one (subst (HasOne c) (sym e) (plan.has_one d f is))
  outside kept d f is (inr low) = kept d f is low

  inner : (d : ℕ) (f : EntryTriple) → dom d f → Has f s → IsMember after k
  inner d f is has = elim (filled.done.parallel parallel k i) [
    | inl in-it ↦ plan.new k d f is in-it
    | inr begun ↦ (let some = begun-some c f k begun in
        plan.new k d f is (((plan.filling d f is).filled some.0 some.1.0).held k (inr some.1.1)
        (above-on c k s d (kid-is c s k plan.legal within i).below filled.inside)))
  ] where
    filled : IsFilled c (BelowOf c d) s f
    filled = (plan.filling d f is).filled s has

-- the configuration after is legal
pub plan-legal : (c : Chart) (dom : Domains) (before after : List ℕ) → IsPlan c dom before after
    → IsConfiguration c after
plan-legal c dom before after plan = record {
  states = list-all-by (λ s. nat_lt s (state_count c) && not (is_history c s)) after
      (λ s on. (let is = plan-states c dom before after s plan on in
      let l = is.0 in
      let less : nat_lt s (state_count c) ≡ true = grind (arith, nat_tests) in and-both (nat_lt s (state_count c))
      (not (is_history c s)) less (ap not is.1)));
  root = plan-root c dom before after plan;
  upward = list-all-by (λ s. list_all (contains after) (ancestors c s)) after
      (λ s on. list-all-by (contains after) (ancestors c s)
      (λ a i. (let is = ancestor-is c s a i in plan-upward c dom before after s a plan on is.0 is.1)));
  one = list-all-by (λ s. not (is_compound c s) || nat_eq (length (active_children c after s)) 1) after
      (λ s on. not-or (is_compound c s) (nat_eq (length (active_children c after s)) 1)
      (λ compound. (let n = plan-one c dom before after s plan on compound in
      let same : nat_eq (length (active_children c after s)) 1 ≡ true = grind (arith, nat_tests) in same)));
  each = list-all-by (λ s. not (is_parallel c s) || list_all (contains after) (children c s)) after
      (λ s on. not-or (is_parallel c s) (list_all (contains after) (children c s))
      (λ parallel. list-all-by (contains after) (children c s)
      (λ k i. plan-each c dom before after s k plan on parallel i)));
}
