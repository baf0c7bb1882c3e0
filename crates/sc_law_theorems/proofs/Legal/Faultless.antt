-- What the elements of a legal chart are: where each may stand, and which have a number.
use Rattle.std.proofs.Common.{◌≡◌, ◌⊎◌, inl, inr, ℕ, ◌<◌, not, suc, Bool, true, false, cond, Option, Some, None, option_and_then, unwrap_or, List, [], ◌∷◌, ◌++◌, filter, length, get_or, slice_get, refl, arith, ap, sym, subst, ◌∙◌}
use Rattle.std.specs.List.{AllByRecursion as AllOf}
use Rattle.sc_types.specs.Elements.{is_numbered, is_state}
use Rattle.sc_types.specs.declared.chart.Chart.{Chart}
use Rattle.sc_types.specs.declared.chart.Node.{Node}
use Rattle.sc_types.specs.declared.chart.Tag.{Tag}
use Rattle.sc_types.specs.declared.chart.Tag.TheVariants as tag
use Rattle.sc_law.specs.Nodes.{Path, element, elements, is_root, is_tag, kids, node_at, parent, tag_of}
use Rattle.sc_law.specs.Tree.{has_states, path_of, state_count}
use Rattle.sc_law.specs.Legality.{fault_at, first_fault, has_bad_targets, is_bad_child, is_bad_kid, legal_fault, may_hold, number_at, tests}
use Rattle.sc_tables.proofs.LookUps.{path-is}
use Rattle.sc_sets.proofs.Union.LegalDefaults.{kid-no-root, not-false, parent-of-kid}
use Rattle.sc_sets.proofs.Union.LegalElements.{element-has, no-number, no-test, none-first, none-found}
use Rattle.sc_law_theorems.proofs.Legal.Lists.{any-at, first-of-five}

-- an element without these two faults
pub record IsPlaced (c : Chart) (p : Path) : Type 0 where
  pub targets : has_bad_targets c p ≡ false
  pub child : is_bad_child c p ≡ false

placed-at : (c : Chart) (p : Path) → fault_at c p ≡ None → IsPlaced c p
placed-at c p h =
    let number = no-number (number_at c p) p h in
    let each = none-found (λ (t : ℕ × (Chart → Path → Bool)). t.1 c p) tests (no-test _ number) in
    record { targets = each.1.1.1.1.0; child = each.1.1.1.1.1.1.0 }

placed-all : (c : Chart) (ps : List Path) → first_fault c ps ≡ None → AllOf (IsPlaced c) ps
placed-all c [] h = tt
placed-all c (p ∷ ps) h =
    let both = none-first (fault_at c p) (first_fault c ps) h in (placed-at c p both.0, placed-all c ps both.1)

-- each element of a legal chart is placed as it should be
pub legal-placed : (c : Chart) → legal_fault c ≡ None → AllOf (IsPlaced c) (elements c)
unfolding legal_fault
legal-placed c legal = placed-all c (elements c) legal

-- so is the element at any path
pub placed-path : (c : Chart) (p : Path) (n : Node) → legal_fault c ≡ None → node_at c.root p ≡ Some n → IsPlaced c p
placed-path c p n legal is = element-has (IsPlaced c) c.root n [] p is (legal-placed c legal)

-- ---- numbers

abbrev HasPlace : {A : Type 0} → (A → Bool) → A → List A → A → Type 0
HasPlace f d xs x = (j : ℕ) × ((j < length (filter f xs)) × (get_or (filter f xs) j d ≡ x))

places-more : {A : Type 0} (f : A → Bool) (d y : A) (xs : List A) (v : Bool) (ys : List A)
    → AllOf (λ x. f x ≡ true → HasPlace f d xs x) ys
    → AllOf (λ x. f x ≡ true
    → (j : ℕ) × ((j < length (cond v (y ∷ filter f xs) (filter f xs)))
    × (get_or (cond v (y ∷ filter f xs) (filter f xs)) j d ≡ x))) ys
places-more f d y xs v [] h = tt
places-more f d y xs true (x ∷ ys) h =
    (λ t. (let r = h.0 t in (suc r.0, (omega (arith, r.1.0), r.1.1))), places-more f d y xs true ys h.1)
places-more f d y xs false (x ∷ ys) h = (h.0, places-more f d y xs false ys h.1)

place-first : {A : Type 0} (f : A → Bool) (d y : A) (zs : List A) (v : Bool) → f y ≡ v → f y ≡ true
    → (j : ℕ) × ((j < length (cond v (y ∷ zs) zs)) × (get_or (cond v (y ∷ zs) zs) j d ≡ y))
place-first f d y zs true e t = (0, (omega arith, refl))
place-first f d y zs false e t = absurd (cc)

-- each item that passes has a place among those that do
all-places : {A : Type 0} (f : A → Bool) (d : A) (xs : List A) → AllOf (λ x. f x ≡ true → HasPlace f d xs x) xs
all-places f d [] = tt
all-places f d (y ∷ xs) = (
  place-first f d y (filter f xs) (f y) refl,
  places-more f d y xs (f y) xs (all-places f d xs),
)

-- the number of a state or history at a path
pub number-at : (c : Chart) (q : Path) (n : Node) → node_at c.root q ≡ Some n → is_numbered (tag_of n) ≡ true
    → (j : ℕ) × ((j < state_count c) × (path_of c j ≡ q))
number-at c q n at numbered =
    let here : element c q ≡ n = ap (λ (o : Option Node). unwrap_or o c.root) at in
    let found = element-has
    (λ p. is_numbered (tag_of (element c p)) ≡ true
    → HasPlace (λ (x : Path). is_numbered (tag_of (element c x))) [] (elements c) p)
    c.root n [] q at (all-places (λ (x : Path). is_numbered (tag_of (element c x))) [] (elements c))
    (ap (λ (m : Node). is_numbered (tag_of m)) here ∙ numbered) in
    (found.0, (found.1.0, path-is c found.0 ∙ found.1.1))

-- ---- where an element stands

-- the element that has another as a child element
node-before : (m n : Node) (p : Path) (k : ℕ) → node_at m (p ++ k ∷ []) ≡ Some n
    → (a : Node) × ((node_at m p ≡ Some a) × (slice_get (kids a) k ≡ Some n))
node-before m n [] k at = (m, (refl, by (slice_get (kids m) k) at)) where
  by : (o : Option Node) → option_and_then (λ (j : Node). Some j) o ≡ Some n → o ≡ Some n
  by None e = absurd (cc)
  by (Some j) e = e
node-before m n (x ∷ p) k at = by (slice_get (kids m) x) at (λ j e. node-before j n p k e) where
  by : (o : Option Node) → option_and_then (λ (j : Node). node_at j (p ++ k ∷ [])) o ≡ Some n
      → ((j : Node) → node_at j (p ++ k ∷ []) ≡ Some n
      → (a : Node) × ((node_at j p ≡ Some a) × (slice_get (kids a) k ≡ Some n)))
      → (a : Node) × ((option_and_then (λ (j : Node). node_at j p) o ≡ Some a) × (slice_get (kids a) k ≡ Some n))
  by None e go = absurd (cc)
  by (Some j) e go = go j e

last-place : (x : ℕ) (p : Path) → (q : Path) × ((k : ℕ) × (x ∷ p ≡ q ++ k ∷ []))
last-place x [] = ([], (x, refl))
last-place x (y ∷ p) = let r = last-place y p in (x ∷ r.0, (r.1.0, ap (λ q. x ∷ q) r.1.1))

-- what may hold states
abbrev pub IsHolder : Tag → Type 0
IsHolder t = (t ≡ tag.Scxml) ⊎ ((t ≡ tag.State) ⊎ (t ≡ tag.Parallel))

holds-state : (t : Tag) → may_hold t tag.State ≡ true → IsHolder t
holds-state tag.Scxml h = inl refl
holds-state tag.State h = inr (inl refl)
holds-state tag.Parallel h = inr (inr refl)
holds-state t h = absurd (cc)

holds-parallel : (t : Tag) → may_hold t tag.Parallel ≡ true → IsHolder t
holds-parallel tag.Scxml h = inl refl
holds-parallel tag.State h = inr (inl refl)
holds-parallel tag.Parallel h = inr (inr refl)
holds-parallel t h = absurd (cc)

holds-final : (t : Tag) → may_hold t tag.Final ≡ true → IsHolder t
holds-final tag.Scxml h = inl refl
holds-final tag.State h = inr (inl refl)
holds-final tag.Parallel h = inr (inr refl)
holds-final t h = absurd (cc)

holds-history : (t : Tag) → may_hold t tag.History ≡ true → IsHolder t
holds-history tag.State h = inr (inl refl)
holds-history tag.Parallel h = inr (inr refl)
holds-history t h = absurd (cc)

holds-numbered : (t kid : Tag) → is_numbered kid ≡ true → may_hold t kid ≡ true → IsHolder t
holds-numbered t tag.State n h = holds-state t h
holds-numbered t tag.Parallel n h = holds-parallel t h
holds-numbered t tag.Final n h = holds-final t h
holds-numbered t tag.History n h = holds-history t h
holds-numbered t kid n h = absurd (cc)

-- nothing holds a root element
holds-none : (t : Tag) → may_hold t tag.Scxml ≡ true → ⊥
holds-none tag.Scxml h = cc
holds-none t h = cc

may-hold : (c : Chart) (p : Path) → is_root p ≡ false → is_bad_child c p ≡ false
    → may_hold (tag_of (element c (parent p))) (tag_of (element c p)) ≡ true
may-hold c p some h =
    let bad : is_bad_kid c p (tag_of (element c (parent p))) (tag_of (element c p)) ≡ false =
    sym (ap (λ v. cond v (not (is_tag tag.Scxml (tag_of (element c p))))
    (is_bad_kid c p (tag_of (element c (parent p))) (tag_of (element c p)))) some) ∙ h in
    not-false _ (first-of-five (not (may_hold (tag_of (element c (parent p))) (tag_of (element c p)))) _ _ _ _ bad)

-- the element that a state or history stands in
pub record StandsIn (c : Chart) (p : Path) (n a : Node) : Type 0 where
  pub above : node_at c.root (parent p) ≡ Some a
  pub holder : IsHolder (tag_of a)
  pub states : is_state (tag_of n) ≡ true → has_states a ≡ true
  pub root : tag_of a ≡ tag.Scxml → parent p ≡ []

stands-in-last : (c : Chart) (q : Path) (k : ℕ) (n : Node) → legal_fault c ≡ None
    → node_at c.root (q ++ k ∷ []) ≡ Some n → is_numbered (tag_of n) ≡ true
    → (a : Node) × ((node_at c.root q ≡ Some a)
    × ((IsHolder (tag_of a)) × ((is_state (tag_of n) ≡ true → has_states a ≡ true) × (tag_of a ≡ tag.Scxml → q ≡ []))))
stands-in-last c q k n legal at numbered = (
  above.0,
  (
    above.1.0,
    (holder, (λ t. any-at (λ kid. is_state (tag_of kid)) (kids above.0) k n above.1.1 t, root q above.0 above.1.0)),
  ),
)
  where
    above : (a : Node) × ((node_at c.root q ≡ Some a) × (slice_get (kids a) k ≡ Some n))
    above = node-before c.root n q k at

    here : element c (q ++ k ∷ []) ≡ n
    here = ap (λ (o : Option Node). unwrap_or o c.root) at

    over : element c (parent (q ++ k ∷ [])) ≡ above.0
    over = ap (element c) (parent-of-kid q k) ∙ ap (λ (o : Option Node). unwrap_or o c.root) above.1.0

    holds : may_hold (tag_of above.0) (tag_of n) ≡ true
    holds = subst (λ (x : Node). may_hold (tag_of x) (tag_of n) ≡ true) over
        (subst (λ (x : Node). may_hold (tag_of (element c (parent (q ++ k ∷ [])))) (tag_of x) ≡ true) here
        (may-hold c (q ++ k ∷ []) (kid-no-root q k) (placed-path c (q ++ k ∷ []) n legal at).child))

    holder : IsHolder (tag_of above.0)
    holder = holds-numbered (tag_of above.0) (tag_of n) numbered holds

    root : (p : Path) (a : Node) → node_at c.root p ≡ Some a → tag_of a ≡ tag.Scxml → p ≡ []
    root [] a is t = refl
    root (x ∷ p) a is t =
        let r = last-place x p in
        let element_is : element c (x ∷ p) ≡ a = ap (λ (o : Option Node). unwrap_or o c.root) is in
        let fine : is_bad_child c (x ∷ p) ≡ false = (placed-path c (x ∷ p) a legal is).child in
        let some : is_root (x ∷ p) ≡ false = ap is_root r.1.1 ∙ kid-no-root r.0 r.1.0 in
        let yes : may_hold (tag_of (element c (parent (x ∷ p)))) tag.Scxml ≡ true =
        subst (λ (g : Tag). may_hold (tag_of (element c (parent (x ∷ p)))) g ≡ true) (ap tag_of element_is ∙ t)
        (may-hold c (x ∷ p) some fine) in
        absurd (holds-none (tag_of (element c (parent (x ∷ p)))) yes)

-- each state or history stands in the root, a state or a parallel
pub stands-in : (c : Chart) (p : Path) (n : Node) → legal_fault c ≡ None → 0 < length p → node_at c.root p ≡ Some n
    → is_numbered (tag_of n) ≡ true
    → (a : Node) × StandsIn c p n a
stands-in c [] n legal long at numbered = absurd (omega arith)
stands-in c (x ∷ p) n legal long at numbered =
    let r = last-place x p in
    let s = stands-in-last c r.0 r.1.0 n legal (sym (ap (node_at c.root) r.1.1) ∙ at) numbered in
    let q_is : parent (x ∷ p) ≡ r.0 = ap parent r.1.1 ∙ parent-of-kid r.0 r.1.0 in (
      s.0,
      record {
        above = ap (node_at c.root) q_is ∙ s.1.0;
        holder = s.1.1.0;
        states = s.1.1.1.0;
        root = λ t. q_is ∙ s.1.1.1.1 t;
      },
    )
