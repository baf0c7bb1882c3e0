-- What targets below a domain enter is a filling of it: one child of it and of each compound state that is entered, all
-- children of each parallel, and with each state all that is above it below the domain.
use Rattle.std.proofs.Common.{◌≡◌, ◌⊎◌, inl, inr, ℕ, ◌<◌, ◌≤◌, Bool, true, false, None, List, [], ◌∷◌, flat_map, refl, sym, subst}
use Rattle.std.specs.List.{AllByRecursion as AllOf}
use Rattle.sc_base.specs.Ascending.{contains}
use Rattle.sc_types.specs.declared.chart.Chart.{Chart}
use Rattle.sc_law.specs.Tree.{is_below, state_count}
use Rattle.sc_law.specs.Kinds.{is_history}
use Rattle.sc_law.specs.Legality.{legal_fault}
use Rattle.sc_law.specs.Configurations.{parent_of}
use Rattle.sc_law.specs.Sets.{Histories, effective_targets, stands_for}
use Rattle.sc_law.specs.Entry.{EntryTriple, bound_of, enter_targets, enters, is_begun, no_entry}
use Rattle.sc_sets.proofs.Union.Above.{below-number}
use Rattle.sc_sets.proofs.Union.Below.{below-within}
use Rattle.sc_sets.proofs.Union.FineTargets.{fine-target}
use Rattle.sc_sets.proofs.Union.Forks.{is-tree}
use Rattle.sc_law_theorems.proofs.Legal.Again.{steady-down}
use Rattle.sc_law_theorems.proofs.Legal.Calms.{IsCalm, calm-targets, down-calms}
use Rattle.sc_law_theorems.proofs.Legal.Downs.{IsRecall, IsTarget, bound-domain, bound-parent, down-sinks, history-covers, history-zone, is-recall, kids-sink, some-recalled, state-target, state-zone, zone-history, zone-state}
use Rattle.sc_law_theorems.proofs.Legal.Fills.{IsReached, Reaches, SinkKids, Sinks, ZoneOf, reaches, stands-has}
use Rattle.sc_law_theorems.proofs.Legal.Gains.{BelowOf, Has, IsFilled, begun-by}
use Rattle.sc_law_theorems.proofs.Legal.Lawful.{IsLawful}
use Rattle.sc_law_theorems.proofs.Legal.Lists.{all-by, append-cases, has-back, has-cases, has-first, has-front, has-later}
use Rattle.sc_law_theorems.proofs.Legal.Meets.{Pairs, Together}
use Rattle.sc_law_theorems.proofs.Legal.Tree.{Under, above-on, below-under, forks-under, kid-is, number-below, under-below}
use Rattle.sc_law_theorems.proofs.Legal.Weights.{weight-most}

-- all that is entered below a domain
pub record IsFilling (c : Chart) (d : ℕ) (f : EntryTriple) : Type 0 where
  pub filled : (x : ℕ) → Has f x → IsFilled c (BelowOf c d) x f
  pub calm : IsCalm c f
  pub begun : is_begun c f d ≡ true

-- ---- what targets stand for

-- what one item gives is among what all give
pub flat-has : (f : ℕ → List ℕ) (ss : List ℕ) (t u : ℕ) → contains ss t ≡ true → contains (f t) u ≡ true
    → contains (flat_map f ss) u ≡ true
flat-has f [] t u h i = absurd (cc)
flat-has f (s ∷ ss) t u h i = elim (has-cases s t ss h) [
  | inl e ↦ has-front u (f s) (flat_map f ss) (subst (λ k. contains (f k) u ≡ true) (sym e) i)
  | inr later ↦ has-back u (f s) (flat_map f ss) (flat-has f ss t u later i)
]

-- what all give is given by one item
pub flat-from : (f : ℕ → List ℕ) (ss : List ℕ) (u : ℕ) → contains (flat_map f ss) u ≡ true
    → (t : ℕ) × ((contains ss t ≡ true) × (contains (f t) u ≡ true))
flat-from f [] u h = absurd (cc)
flat-from f (s ∷ ss) u h = by (append-cases u (f s) (flat_map f ss) h) (flat-from f ss u) where
  by : ((contains (f s) u ≡ true) ⊎ (contains (flat_map f ss) u ≡ true))
      → (contains (flat_map f ss) u ≡ true → (t : ℕ) × ((contains ss t ≡ true) × (contains (f t) u ≡ true)))
      → (t : ℕ) × ((contains (s ∷ ss) t ≡ true) × (contains (f t) u ≡ true))
  by (inl here) so = (s, (has-first s ss, here))
  by (inr later) so = let r = so later in (r.0, (has-later s r.0 ss r.1.0, r.1.1))

-- ---- targets of a domain

-- targets that may be entered together below a domain
pub record AreTargets (c : Chart) (h : Histories) (d : ℕ) (ss : List ℕ) : Type 0 where
  pub lawful : IsLawful c h
  pub domain : d ≤ state_count c
  pub numbers : (t : ℕ) → contains ss t ≡ true → t < state_count c
  pub below : (u : ℕ) → contains (effective_targets c h ss) u ≡ true → is_below c u d ≡ true
  pub together : Pairs (Together c) ss
  pub some : (u : ℕ) × (contains (effective_targets c h ss) u ≡ true)

stands-low : (c : Chart) (h : Histories) (d : ℕ) (ss : List ℕ) (t : ℕ) → AreTargets c h d ss → contains ss t ≡ true
    → AllOf (λ u. is_below c u d ≡ true) (stands_for c h t)
stands-low c h d ss t are i =
    all-by (λ u. is_below c u d ≡ true) (stands_for c h t) (λ u j. are.below u (flat-has (stands_for c h) ss t u i j))

is-target : (c : Chart) (h : Histories) (d : ℕ) (ss : List ℕ) (t : ℕ) → AreTargets c h d ss → contains ss t ≡ true
    → IsTarget c h d t
is-target c h d ss t are i = record {
  number = are.numbers t i;
  fine = fine-target c h d t are.lawful.legal are.lawful.recorded (are.numbers t i) (stands-low c h d ss t are i);
}

-- the states of some targets are reached from the states that these stand for
targets-reached : (c : Chart) (h : Histories) (d : ℕ) (ss : List ℕ) → AreTargets c h d ss
    → IsReached c h d d ss (effective_targets c h ss)
targets-reached c h d ss are = record {
  zones = λ t i x z. zones t i (is_history c t) refl x z;
  covers = λ t i x y z u low. covers t i (is_history c t) refl x y z u low;
  seen =
      λ u i a high low. (let from = flat-from (stands_for c h) ss u i in (from.0, (u, (from.1.0, (from.1.1, high)))));
} where
  recall : (t : ℕ) → contains ss t ≡ true → is_history c t ≡ true → IsRecall c h d t (bound_of c d t)
  recall t i history = is-recall c h d t are.lawful (is-target c h d ss t are i) history

  low-state : (t : ℕ) → contains ss t ≡ true → is_history c t ≡ false → is_below c t d ≡ true
  low-state t i state = are.below t (flat-has (stands_for c h) ss t t i (stands-has c h t state))

  zones : (t : ℕ) → contains ss t ≡ true → (v : Bool) → is_history c t ≡ v → (x : ℕ) → ZoneOf c d t x
      → is_below c x d ≡ true
  zones t i true e x z =
      below-within c (is-tree c) d (bound_of c d t) x (recall t i e).within
      (history-zone c d t x (bound_of c d t) e refl z)
  zones t i false e x z = under-below c x t d (state-zone c d t x e z) (low-state t i e)

  on-history : (t : ℕ) → contains ss t ≡ true → is_history c t ≡ true → (w : Bool) → is_below c d (parent_of c t) ≡ w
      → (x y : ℕ) → ZoneOf c d t x → Under c x y
      → is_below c y d ≡ true
      → (ZoneOf c d t y) ⊎ ((u : ℕ) × ((contains (effective_targets c h ss) u ≡ true) × (is_below c u y ≡ true)))
  on-history t i e true f x y z u low = inl (zone-history c d t y d e (bound-domain c d t f) low)
  on-history t i e false f x y z u low =
      elim (history-covers c d d t x y are.lawful.legal (are.numbers t i) e (bound-parent c d t f) z u low) [
        | inl zone ↦ inl zone
        | inr high ↦ (let some = some-recalled c h t are.lawful (are.numbers t i) e in
            inr (
              some.0,
              (
                flat-has (stands_for c h) ss t some.0 i some.1.0,
                below-under c some.0
                    (parent_of c t) y some.1.1 high,
              ),
            ))
      ]

  covers : (t : ℕ) → contains ss t ≡ true → (v : Bool) → is_history c t ≡ v → (x y : ℕ) → ZoneOf c d t x → Under c x y
      → is_below c y d ≡ true
      → (ZoneOf c d t y) ⊎ ((u : ℕ) × ((contains (effective_targets c h ss) u ≡ true) × (is_below c u y ≡ true)))
  covers t i true e x y z u low = on-history t i e (is_below c d (parent_of c t)) refl x y z u low
  covers t i false e x y z u low =
      elim (forks-under c x y t are.lawful.legal (number-below c y d low) (number-below c t d (low-state t i e)) u
      (state-zone c d t x e z)) [
        | inl under ↦ inl (zone-state c d t y e under)
        | inr high ↦ inr (t, (flat-has (stands_for c h) ss t t i (stands-has c h t e), high))
      ]

-- what targets of a domain enter
pub targets-fill : (c : Chart) (h : Histories) (d : ℕ) (ss : List ℕ) → AreTargets c h d ss
    → IsFilling c d (enter_targets c h ss d no_entry)
targets-fill c h d ss are = record {
  filled = λ x i. elim (all.gains.new x i) [ inl none ↦ absurd (cc) | inr filled ↦ filled ];
  calm =
      calm-targets c h d d ss (effective_targets c h ss) (enters c h d) legal sinks (steady-down c h d (state_count c))
      (λ t i. down-calms c h d (state_count c) are.lawful t (is-target c h d ss t are i)
      (weight-most c t (are.numbers t i)))
      (λ a k low i. (let kid = kid-is c a k legal (number-below c a d low) i in
      down-calms c h d (state_count c) are.lawful k (state-target c h d k kid.state (above-on c k a d kid.below low))
      (weight-most c k kid.number)))
      are.together reached.seen no_entry (λ y z i j. absurd (cc)) (λ t i z j. absurd (cc));
  begun = begun;
} where
  legal : legal_fault c ≡ None
  legal = are.lawful.legal

  sinks : (t : ℕ) → contains ss t ≡ true → Sinks c h d (enters c h d) t
  sinks t i =
      down-sinks c h d (state_count c) are.lawful t (is-target c h d ss t are i) (weight-most c t (are.numbers t i))

  kids : SinkKids c h d (enters c h d) d
  kids = kids-sink c h d (state_count c) d (enters c h d) legal (down-sinks c h d (state_count c) are.lawful)
      (λ k state low. (low, weight-most c k (below-number c k d low)))

  reached : IsReached c h d d ss (effective_targets c h ss)
  reached = targets-reached c h d ss are

  all : Reaches c h d ss no_entry (enter_targets c h ss d no_entry)
  all = reaches c h d (enters c h d) d ss (effective_targets c h ss) legal sinks kids reached no_entry

  begun : is_begun c (enter_targets c h ss d no_entry) d ≡ true
  begun =
      let from = flat-from (stands_for c h) ss are.some.0 are.some.1 in
      begun-by c (enter_targets c h ss d no_entry) are.some.0 d (all.entered from.0 from.1.0 are.some.0 from.1.1)
      (are.below are.some.0 are.some.1)
