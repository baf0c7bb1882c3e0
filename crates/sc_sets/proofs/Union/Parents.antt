-- The parent of a state or history is the nearest state above it.
use Rattle.std.proofs.Common.{◌≡◌, ◌⊎◌, inl, inr, ℕ, ◌+◌, ◌<◌, ◌≤◌, zero, suc, Bool, true, false, Option, Some, None, List, [], ◌∷◌, length, reverse, unwrap_or, refl, arith, ap, sym, ◌∙◌}
use Rattle.std.proofs.lemmas.Bool.{cases_lt, cases_order}
use Rattle.std.proofs.lemmas.List.{get_or_past}
use Rattle.sc_types.specs.declared.chart.Chart.{Chart}
use Rattle.sc_law.specs.Nodes.{Path, leads_on, parent}
use Rattle.sc_law.specs.Tree.{is_below, path_of, root, state_count, state_paths}
use Rattle.sc_law.specs.Configurations.{first_or, parent_of}
use Rattle.sc_tables.specs.Nearest.{IsNearest, NoneLeads, path_at}
use Rattle.sc_tables.specs.Preorder.{IsPreorder}
use Rattle.sc_tables.proofs.Above.{above_numbers, nearest-first}
use Rattle.sc_tables.proofs.Leads.{leads-begin, leads-between, leads-from, leads-not-back, leads-not-same, leads-shorter, parent-begins, parent-length}
use Rattle.sc_tables.proofs.LookUps.{path-is}
use Rattle.sc_tables.proofs.Order.{begins, begins-fork}
use Rattle.sc_tables.proofs.Placed.{states_ordered}

-- the last path before a number that leads on
nearest : (paths : List Path) (count : ℕ) (path : Path) → (o : Option ℕ) × IsNearest paths count path o
nearest paths zero path = (None, λ k a u. absurd (omega arith))
nearest paths (suc n) path = by (leads_on (path_at paths n) path) refl (nearest paths n path) where
  none : (from : ℕ) → leads_on (path_at paths n) path ≡ false → NoneLeads paths from n path → NoneLeads paths from (suc n) path
  none from e earlier k a u = elim (cases_lt k n) [
    | inl l ↦ earlier k a l
    | inr g ↦ (let same : k ≡ n = omega arith in ap (λ i. leads_on (path_at paths i) path) same ∙ e)
  ]

  by : (v : Bool) → leads_on (path_at paths n) path ≡ v → ((o : Option ℕ) × IsNearest paths n path o) → (o : Option ℕ) × IsNearest paths (suc n) path o
  by true e rest = (Some n, (omega arith, e, λ k a u. absurd (omega arith)))
  by false e (None, is) = (None, none 0 e is)
  by false e (Some p, is) = (Some p, (omega (arith, is.0), is.1, none (p + 1) e is.2))

-- the parent of a state, as the nearest path that leads on to its own
pub record HasParent (c : Chart) (t : ℕ) (o : Option ℕ) : Type 0 where
  pub near : IsNearest (state_paths c) t (path_at (state_paths c) t) o
  pub same : parent_of c t ≡ unwrap_or o (root c)

pub parent-near : (c : Chart) (t : ℕ) → t < state_count c → (o : Option ℕ) × HasParent c t o
parent-near c t l =
    let found = nearest (state_paths c) t (path_at (state_paths c) t) in
    let first = nearest-first (state_paths c) t (root c) found.0 (states_ordered c) l found.1 in (
      found.0,
      record {
        near = found.1;
        same = ap (λ p. first_or (root c) (reverse (above_numbers (state_paths c) p))) (path-is c t) ∙ first;
      },
    )

pub past-root : (c : Chart) (s : ℕ) → state_count c ≤ s → path_of c s ≡ []
past-root c s l = path-is c s ∙ get_or_past (state_paths c) s [] l

-- what leads on to a path comes before it
earlier : (paths : List Path) (s t : ℕ) → IsPreorder paths → s < length paths → t < length paths
    → leads_on (path_at paths s) (path_at paths t) ≡ true → s < t
earlier paths s t order l m h = elim (cases_order s t) [
  | inl e ↦ absurd (let no = ap (λ k. leads_on (path_at paths k) (path_at paths t)) e ∙ leads-not-same (path_at paths t) in cc)
  | inr o ↦ elim o [
    | inl below ↦ below
    | inr above ↦ absurd (let no = leads-not-back (path_at paths t) (path_at paths s) (order.pairs t s [] above l) in cc)
  ]
]

-- a state is the parent, or above it, where it is above a child of that
pub record IsAtParent (c : Chart) (s t : ℕ) : Type 0 where
  pub at : (is_below c (parent_of c t) s ≡ true) ⊎ (path_of c (parent_of c t) ≡ path_of c s)

from-root : (p : Path) → (leads_on [] p ≡ true) ⊎ (p ≡ [])
from-root [] = inr refl
from-root (x ∷ p) = inl (leads-from [] (x ∷ p) refl (omega arith))

above-paths : (paths : List Path) (s t : ℕ) (o : Option ℕ) → IsPreorder paths → s < length paths → t < length paths
    → leads_on (path_at paths s) (path_at paths t) ≡ true → IsNearest paths t (path_at paths t) o
    → (p : ℕ) × ((o ≡ Some p) × ((leads_on (path_at paths s) (path_at paths p) ≡ true) ⊎ (path_at paths p ≡ path_at paths s)))
above-paths paths s t None order l m h near =
    absurd (let no = near s (omega arith) (earlier paths s t order l m h) in cc)
above-paths paths s t (Some p) order l m h near = (
  p,
  (
    refl,
    elim (cases_order s p) [
      | inl e ↦ inr (sym (ap (path_at paths) e))
      | inr o ↦ elim o [
        | inl below ↦ inl (leads-between (path_at paths s) (path_at paths p) (path_at paths t) (order.pairs s p [] below (omega (arith, near.0)))
            (order.pairs p t [] near.0 m) h)
        | inr above ↦ absurd (let no = near.2 s (omega arith) (earlier paths s t order l m h) in cc)
      ]
    ],
  ),
)

-- a state above another is its parent, or above its parent
pub at-parent : (c : Chart) (s t : ℕ) → t < state_count c → is_below c t s ≡ true
    → (is_below c (parent_of c t) s ≡ true) ⊎ (path_of c (parent_of c t) ≡ path_of c s)
at-parent c s t l h = elim (cases_lt s (state_count c)) [
  | inl m ↦ inner m
  | inr past ↦ outer (past-root c s (omega arith)) (from-root (path_of c (parent_of c t)))
] where
  outer : path_of c s ≡ [] → (leads_on [] (path_of c (parent_of c t)) ≡ true) ⊎ (path_of c (parent_of c t) ≡ [])
      → (is_below c (parent_of c t) s ≡ true) ⊎ (path_of c (parent_of c t) ≡ path_of c s)
  outer e (inl leads) = inl (ap (λ p. leads_on p (path_of c (parent_of c t))) e ∙ leads)
  outer e (inr same) = inr (same ∙ sym e)

  inner : s < state_count c → (is_below c (parent_of c t) s ≡ true) ⊎ (path_of c (parent_of c t) ≡ path_of c s)
  inner m =
      let has = parent-near c t l in
      let leads : leads_on (path_at (state_paths c) s) (path_at (state_paths c) t) ≡ true =
      sym (ap (λ p. leads_on p (path_of c t)) (path-is c s) ∙ ap (leads_on (path_at (state_paths c) s)) (path-is c t)) ∙ h in
      let found = above-paths (state_paths c) s t has.0 (states_ordered c) m l leads has.1.near in
      let is : path_of c (parent_of c t) ≡ path_at (state_paths c) found.0 =
      ap (path_of c) (has.1.same ∙ ap (λ (o : Option ℕ). unwrap_or o (root c)) found.1.0) ∙ path-is c found.0 in
      elim found.1.1 [
        | inl below ↦ inl (ap (λ p. leads_on p (path_of c (parent_of c t))) (path-is c s) ∙ ap (leads_on (path_at (state_paths c) s)) is ∙ below)
        | inr same ↦ inr (is ∙ same ∙ sym (path-is c s))
      ]

-- the path of the parent begins the path of the element that a state stands in
pub parent-above-element : (c : Chart) (t : ℕ) → t < state_count c → begins (path_of c (parent_of c t)) (parent (path_of c t)) ≡ true
parent-above-element c t l = by has.0 has.1.near has.1.same where
  has : (o : Option ℕ) × HasParent c t o
  has = parent-near c t l

  by : (o : Option ℕ) → IsNearest (state_paths c) t (path_at (state_paths c) t) o → parent_of c t ≡ unwrap_or o (root c)
      → begins (path_of c (parent_of c t)) (parent (path_of c t)) ≡ true
  by None near same = ap (λ p. begins p (parent (path_of c t))) (ap (path_of c) same ∙ past-root c (root c) (omega arith))
  by (Some p) near same =
      let leads : leads_on (path_of c p) (path_of c t) ≡ true =
      ap (λ q. leads_on q (path_of c t)) (path-is c p) ∙ ap (leads_on (path_at (state_paths c) p)) (path-is c t) ∙ near.1 in
      let short = leads-shorter (path_of c p) (path_of c t) leads in
      let long = parent-length (path_of c t) in
      ap (λ s. begins (path_of c s) (parent (path_of c t))) same
      ∙ begins-fork (path_of c p) (parent (path_of c t)) (path_of c t) (leads-begin (path_of c p) (path_of c t) leads) (parent-begins (path_of c t)) (omega (arith, long))
