-- How deep one state's entry may lead to another's: fewer and fewer states are below.
use Rattle.std.proofs.Common.{◌≡◌, inl, inr, ℕ, ◌+◌, ◌<◌, ◌≤◌, ◌==◌, ◌||◌, zero, suc, Bool, true, false, None, refl, arith, ap, sym, subst, ◌∙◌}
use Rattle.std.proofs.lemmas.Bool.{cases_order}
use Rattle.std.proofs.lemmas.Bool.Decides.{nat_tests}
use Rattle.sc_types.specs.declared.chart.Chart.{Chart}
use Rattle.sc_law.specs.Tree.{is_below, state_count}
use Rattle.sc_law.specs.Kinds.{is_history}
use Rattle.sc_law.specs.Legality.{legal_fault}
use Rattle.sc_law.specs.Configurations.{parent_of}
use Rattle.sc_sets.proofs.Union.Above.{below-number}
use Rattle.sc_sets.proofs.Union.Apart.{false-by}
use Rattle.sc_law_theorems.proofs.Legal.Lists.{or-cases, or-right}
use Rattle.sc_law_theorems.proofs.Legal.Tree.{Under, above-on, below-under, between, has-holder, not-own, number-below}

abbrev one-if : Bool → ℕ
one-if true = 1
one-if false = 0

-- how many of the first numbers pass
abbrev count : (ℕ → Bool) → ℕ → ℕ
count test zero = 0
count test (suc n) = one-if (test n) + count test n

one-less : (v w : Bool) → (v ≡ true → w ≡ true) → one-if v ≤ one-if w
one-less true w h = let e : one-if w ≡ 1 = ap one-if (h refl) in omega arith
one-less false w h = omega arith

count-less : (p q : ℕ → Bool) (n : ℕ) → ((x : ℕ) → p x ≡ true → q x ≡ true) → count p n ≤ count q n
count-less p q zero h = omega arith
count-less p q (suc n) h =
    let l = one-less (p n) (q n) (h n) in
    let m = count-less p q n h in omega arith

count-fewer : (p q : ℕ → Bool) (n k : ℕ) → ((x : ℕ) → p x ≡ true → q x ≡ true) → k < n → p k ≡ false → q k ≡ true
    → count p n < count q n
count-fewer p q zero k h l out in-it = absurd (omega arith)
count-fewer p q (suc n) k h l out in-it = elim (cases_order k n) [
  | inl e ↦ (let none : one-if (p n) ≡ 0 = zero-if (p n) (sym (ap p e) ∙ out) in
      let one : one-if (q n) ≡ 1 = some-if (q n) (sym (ap q e) ∙ in-it) in
      let m = count-less p q n h in omega arith)
  | inr o ↦ elim o [
    | inl less ↦ (let m = one-less (p n) (q n) (h n) in
        let rest = count-fewer p q n k h less out in-it in omega arith)
    | inr more ↦ absurd (omega arith)
  ]
] where
  zero-if : (v : Bool) → v ≡ false → one-if v ≡ 0
  zero-if true e = absurd (cc)
  zero-if false e = refl

  some-if : (v : Bool) → v ≡ true → one-if v ≡ 1
  some-if true e = refl
  some-if false e = absurd (cc)

count-most : (p : ℕ → Bool) (n : ℕ) → count p n ≤ n
count-most p zero = omega arith
count-most p (suc n) = let m = count-most p n in let l = at-most (p n) in omega arith where
  at-most : (v : Bool) → one-if v ≤ 1
  at-most true = omega arith
  at-most false = omega arith

-- how many states and histories are below a state
abbrev below-count : Chart → ℕ → ℕ
below-count c s = count (λ x. is_below c x s) (state_count c)

abbrev weight-by : Bool → Chart → ℕ → ℕ
weight-by true c t = below-count c (parent_of c t)
weight-by false c t = 1 + below-count c t

-- so many levels of entry are enough for a state or history
abbrev pub weight : Chart → ℕ → ℕ
weight c t = weight-by (is_history c t) c t

weight-state : (c : Chart) (s : ℕ) → is_history c s ≡ false → weight c s ≡ 1 + below-count c s
weight-state c s e = ap (λ v. weight-by v c s) e

weight-history : (c : Chart) (s : ℕ) → is_history c s ≡ true → weight c s ≡ below-count c (parent_of c s)
weight-history c s e = ap (λ v. weight-by v c s) e

fewer-below : (c : Chart) (t s : ℕ) → is_below c t s ≡ true → below-count c t < below-count c s
fewer-below c t s h =
    count-fewer (λ x. is_below c x t) (λ x. is_below c x s) (state_count c) t (λ x i. above-on c x t s i h)
    (below-number c t s h)
    (false-by (is_below c t t) (not-own c t)) h

-- what is below a state is lighter
pub lighter-below : (c : Chart) (t s : ℕ) → legal_fault c ≡ None → s ≤ state_count c → is_history c s ≡ false
    → is_below c t s ≡ true → weight c t < weight c s
lighter-below c t s legal m state h = by (is_history c t) refl where
  own : weight c s ≡ 1 + below-count c s
  own = weight-state c s state

  no-more : Under c (parent_of c t) s → below-count c (parent_of c t) ≤ below-count c s
  no-more (inl e) = let same : below-count c (parent_of c t) ≡ below-count c s = ap (below-count c) e in omega arith
  no-more (inr low) = let l = fewer-below c (parent_of c t) s low in omega arith

  by : (v : Bool) → is_history c t ≡ v → weight c t < weight c s
  by true e =
      let it = weight-history c t e in
      let l = no-more (between c t s legal (below-number c t s h) m h) in omega (arith, own, it, l)
  by false e =
      let it = weight-state c t e in
      let l = fewer-below c t s h in omega (arith, own, it, l)

-- a state is lighter than a history that is recalled by it
pub lighter-recalled : (c : Chart) (u t : ℕ) → legal_fault c ≡ None → t < state_count c → is_history c t ≡ true
    → is_history c u ≡ false
    → is_below c u (parent_of c t) ≡ true → weight c u < weight c t
lighter-recalled c u t legal l history state h =
    let own = weight-history c t history in
    let it = weight-state c u state in
    let one : count (λ x. is_below c x u) (state_count c) < count near (state_count c) =
    count-fewer (λ x. is_below c x u) near (state_count c) u (λ x i. or-right (x == u) (is_below c x u) i)
    (below-number c u (parent_of c t) h)
    (false-by (is_below c u u) (not-own c u)) self in
    let two : count near (state_count c) < count (λ x. is_below c x (parent_of c t)) (state_count c) =
    count-fewer near (λ x. is_below c x (parent_of c t)) (state_count c) t all l (false-by (near t) other)
    (has-holder c t legal l).below in
    omega (arith, own, it, one, two)
  where
    near : ℕ → Bool
    near x = (x == u) || is_below c x u

    self : near u ≡ true
    self = let hit : (u == u) ≡ true = grind (arith, nat_tests) in ap (λ v. v || is_below c u u) hit

    all : (x : ℕ) → near x ≡ true → is_below c x (parent_of c t) ≡ true
    all x i = elim (or-cases (x == u) (is_below c x u) i) [
      | inl same ↦ (let e : x ≡ u = grind (arith, nat_tests) in subst (λ k. is_below c k (parent_of c t) ≡ true)
          (sym e) h)
      | inr low ↦ above-on c x u (parent_of c t) low h
    ]

    other : near t ≡ true → ⊥
    other i = elim (or-cases (t == u) (is_below c t u) i) [
      | inl same ↦ (let e : t ≡ u = grind (arith, nat_tests) in let yes : is_history c u ≡ true = sym
          (ap (is_history c) e) ∙ history in cc)
      | inr low ↦ not-own c u
          (below-under c u (parent_of c t) u h (between c t u legal l (number-below c u (parent_of c t) h) low))
    ]

-- nothing is heavier than the chart
pub weight-most : (c : Chart) (t : ℕ) → t < state_count c → weight c t ≤ state_count c
weight-most c t l = by (is_history c t) refl where
  by : (v : Bool) → is_history c t ≡ v → weight c t ≤ state_count c
  by true e =
      let it = weight-history c t e in let m = count-most (λ x. is_below c x (parent_of c t)) (state_count c) in
      omega (arith, it, m)
  by false e =
      let it = weight-state c t e in
      let fewer : count (λ x. is_below c x t) (state_count c) < count (λ x. true) (state_count c) =
      count-fewer (λ x. is_below c x t) (λ x. true) (state_count c) t (λ x i. refl) l
      (false-by (is_below c t t) (not-own c t)) refl in
      let m = count-most (λ x. true) (state_count c) in omega (arith, it, fewer, m)

-- each state or history needs some level
pub some-weight : (c : Chart) (t : ℕ) → legal_fault c ≡ None → t < state_count c → 0 < weight c t
some-weight c t legal l = by (is_history c t) refl where
  by : (v : Bool) → is_history c t ≡ v → 0 < weight c t
  by true e =
      let it = weight-history c t e in
      let some : count (λ x. false) (state_count c) < count (λ x. is_below c x (parent_of c t)) (state_count c) =
      count-fewer (λ x. false) (λ x. is_below c x (parent_of c t)) (state_count c) t (λ x i. absurd (cc)) l refl
      (has-holder c t legal l).below in
      omega (arith, it, some)
  by false e = let it = weight-state c t e in omega (arith, it)
