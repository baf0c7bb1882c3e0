-- Targets in document order: where each two neighbours are orthogonal, each two targets are.
use Rattle.std.proofs.Common.{◌≡◌, ℕ, ◌<◌, ◌==◌, ◌⊎◌, inl, inr, suc, ◌-◌, Bool, true, false, cond, not, ◌&&◌, List, [], ◌∷◌, length, map, take, refl, sym, ap, ap₂, subst, ◌∙◌, arith, rules, nat_eq, nat_lt}
use Rattle.std.proofs.lemmas.Bool.Decides.{nat_tests}
use Rattle.std.specs.Cmp.Lexicographic.{slice_cmp, nat_list_cmp_total, nat_list_eq_equiv}
use Rattle.std.specs.List.{list_all, starts_with}
use Rattle.std.specs.List.Sorted.{IsPermutation, IsSortedByKey}
use Rattle.std.specs.declared.cmp.Ordering.{Ordering}
use Rattle.std.specs.declared.cmp.Ordering.TheVariants.{Less, Equal, Greater}
use Rattle.std.specs.Ordering.{is_lt, nat_cmp, ordering_then}
use Rattle.std.proofs.lemmas.List.Sorted.{IsPermutation-map, ranks_by}
use Rattle.std.proofs.lemmas.List.Folds.{list_all-map}
use Rattle.sc_types.specs.declared.chart.Chart.{Chart}
use Rattle.sc_types.specs.declared.chart.Tag.TheVariants as tag
use Rattle.sc_law.specs.Nodes.{Path, element, is_same, is_tag, leads_on, parent, tag_of}
use Rattle.sc_law.specs.Legality.{all_orthogonal, are_orthogonal, common}
use Rattle.sc_valid.specs.Neighbours.{all_neighbours}
use Rattle.sc_valid.proofs.PairLemmas.{all_pairs, all_pairs-permuted, neighbours_enough, first_true, second_true, both_true, and_false}

-- what two targets are to each other: `test` is what has to hold of their first common ancestor, `h` and `k` say which
-- of them are histories
abbrev orthogonal : (Path → Bool) → Bool → Bool → Path → Path → Bool
orthogonal test h k a b = not (is_same a b) && not (leads_on a b) && not (leads_on b a)
    && test (common a b) && not (h && is_same (parent a) (common a b)) && not (k && is_same (parent b) (common a b))

-- the places differ
abbrev part : (Path → Bool) → Bool → Bool → ℕ → Path → ℕ → Path → Bool
part test h k i a j b = test [] && not (h && is_same (parent (i ∷ a)) []) && not (k && is_same (parent (j ∷ b)) [])

-- the same place by place
abbrev meets : (Path → Bool) → Bool → Bool → Path → Path → Bool
meets test h k [] b = false
meets test h k (i ∷ a) [] = false
meets test h k (i ∷ a) (j ∷ b) = cond (i == j) (meets (λ p. test (i ∷ p)) h k a b) (part test h k i a j b)

itself : (i : ℕ) → (i == i) ≡ true
itself i = grind (arith, nat_tests)

turned : (i j : ℕ) → (i == j) ≡ (j == i)
turned i j = grind (arith, nat_tests)

number : (i j : ℕ) → (i == j) ≡ true → i ≡ j
number i j e = grind (arith, nat_tests)

less_both : (m n : ℕ) → nat_lt (suc m) (suc n) ≡ nat_lt m n
less_both m n = grind (arith, nat_tests)

one_less : (n : ℕ) → nat_lt 1 (suc (suc n)) ≡ true
one_less n = grind (arith, nat_tests)

not_less : (n : ℕ) → nat_lt (suc (suc n)) 1 ≡ false
not_less n = grind (arith, nat_tests)

zero_less : (n : ℕ) → nat_lt 0 (suc n) ≡ true
zero_less n = grind (arith, nat_tests)

none_less : (n : ℕ) → nat_lt (suc n) 0 ≡ false
none_less n = grind (arith, nat_tests)

orthogonal-first : (test : Path → Bool) (h k : Bool) (j : ℕ) (b : Path) → orthogonal test h k [] (j ∷ b) ≡ false
orthogonal-first test h k j b = rw (zero_less (length b)) refl

orthogonal-second : (test : Path → Bool) (h k : Bool) (i : ℕ) (a : Path) → orthogonal test h k (i ∷ a) [] ≡ false
orthogonal-second test h k i a = rw (zero_less (length a), none_less (length a)) refl

one_off : (n : ℕ) → suc n - 1 ≡ n
one_off n = omega arith

parent-more : (i x : ℕ) (a : Path) → parent (i ∷ x ∷ a) ≡ i ∷ parent (x ∷ a)
parent-more i x a = ap (λ n. take n (i ∷ x ∷ a)) (one_off (suc (length a))) ∙ ap (λ n. i ∷ take n (x ∷ a)) (sym (one_off (length a)))

orthogonal-same : (test : Path → Bool) (h k : Bool) (i : ℕ) (a b : Path)
    → orthogonal test h k (i ∷ a) (i ∷ b) ≡ orthogonal (λ p. test (i ∷ p)) h k a b
orthogonal-same test h k i [] [] = rw (itself i) refl
orthogonal-same test h k i [] (y ∷ b) = rw (itself i, one_less (length b)) (sym (orthogonal-first (λ p. test (i ∷ p)) h k y b))
orthogonal-same test h k i (x ∷ a) [] = rw (itself i, one_less (length a), not_less (length a)) (sym (orthogonal-second (λ p. test (i ∷ p)) h k x a))
orthogonal-same test h k i (x ∷ a) (y ∷ b) =
    λ n. not (alike n) && not (above n) && not (below n) && test (meet n) && not (h && first n) && not (k && second n) where
      alike : is_same (i ∷ x ∷ a) (i ∷ y ∷ b) ≡ is_same (x ∷ a) (y ∷ b)
      alike = ap (λ t. t && is_same (x ∷ a) (y ∷ b)) (itself i)

      above : leads_on (i ∷ x ∷ a) (i ∷ y ∷ b) ≡ leads_on (x ∷ a) (y ∷ b)
      above = ap₂ (λ s t. s && (t && starts_with nat_eq (y ∷ b) (x ∷ a))) (less_both (suc (length a)) (suc (length b))) (itself i)

      below : leads_on (i ∷ y ∷ b) (i ∷ x ∷ a) ≡ leads_on (y ∷ b) (x ∷ a)
      below = ap₂ (λ s t. s && (t && starts_with nat_eq (x ∷ a) (y ∷ b))) (less_both (suc (length b)) (suc (length a))) (itself i)

      meet : common (i ∷ x ∷ a) (i ∷ y ∷ b) ≡ i ∷ common (x ∷ a) (y ∷ b)
      meet = ap (λ t. cond t (i ∷ common (x ∷ a) (y ∷ b)) []) (itself i)

      first : is_same (parent (i ∷ x ∷ a)) (common (i ∷ x ∷ a) (i ∷ y ∷ b)) ≡ is_same (parent (x ∷ a)) (common (x ∷ a) (y ∷ b))
      first = ap₂ is_same (parent-more i x a) meet ∙ ap (λ t. t && is_same (parent (x ∷ a)) (common (x ∷ a) (y ∷ b))) (itself i)

      second : is_same (parent (i ∷ y ∷ b)) (common (i ∷ x ∷ a) (i ∷ y ∷ b)) ≡ is_same (parent (y ∷ b)) (common (x ∷ a) (y ∷ b))
      second = ap₂ is_same (parent-more i y b) meet ∙ ap (λ t. t && is_same (parent (y ∷ b)) (common (x ∷ a) (y ∷ b))) (itself i)

orthogonal-other : (test : Path → Bool) (h k : Bool) (i j : ℕ) (a b : Path) → (i == j) ≡ false
    → orthogonal test h k (i ∷ a) (j ∷ b) ≡ part test h k i a j b
orthogonal-other test h k i j a b e = simp (e, sym (turned i j) ∙ e, and_false) refl

orthogonal-meets : (test : Path → Bool) (h k : Bool) (a b : Path) → orthogonal test h k a b ≡ meets test h k a b
orthogonal-meets test h k [] [] = refl
orthogonal-meets test h k [] (j ∷ b) = orthogonal-first test h k j b
orthogonal-meets test h k (i ∷ a) [] = orthogonal-second test h k i a
orthogonal-meets test h k (i ∷ a) (j ∷ b) = by (orthogonal-meets (λ p. test (i ∷ p)) h k a b) (i == j) refl where
  by : orthogonal (λ p. test (i ∷ p)) h k a b ≡ meets (λ p. test (i ∷ p)) h k a b → (t : Bool) → (i == j) ≡ t → orthogonal test h k (i ∷ a) (j ∷ b) ≡ cond t (meets (λ p. test (i ∷ p)) h k a b) (part test h k i a j b)
  by rest true e = ap (λ j. orthogonal test h k (i ∷ a) (j ∷ b)) (sym (number i j e)) ∙ orthogonal-same test h k i a b ∙ rest
  by rest false e = orthogonal-other test h k i j a b e

swapped : (t p q : Bool) → (t && p && q) ≡ (t && q && p)
swapped true true true = refl
swapped true true false = refl
swapped true false true = refl
swapped true false false = refl
swapped false p q = refl

meets-turned : (test : Path → Bool) (h k : Bool) (a b : Path) → meets test h k a b ≡ meets test k h b a
meets-turned test h k [] [] = refl
meets-turned test h k [] (j ∷ b) = refl
meets-turned test h k (i ∷ a) [] = refl
meets-turned test h k (i ∷ a) (j ∷ b) = by (meets-turned (λ p. test (i ∷ p)) h k a b) (i == j) refl ∙ ap (λ t. cond t (meets (λ p. test (j ∷ p)) k h b a) (part test k h j b i a)) (turned i j) where
  by : meets (λ p. test (i ∷ p)) h k a b ≡ meets (λ p. test (i ∷ p)) k h b a → (t : Bool) → (i == j) ≡ t → cond t (meets (λ p. test (i ∷ p)) h k a b) (part test h k i a j b) ≡ cond t (meets (λ p. test (j ∷ p)) k h b a) (part test k h j b i a)
  by rest true e = rest ∙ ap (λ n. meets (λ p. test (n ∷ p)) k h b a) (number i j e)
  by rest false e = swapped (test []) (not (h && is_same (parent (i ∷ a)) [])) (not (k && is_same (parent (j ∷ b)) []))

decide : (x y : Bool) (o : Ordering) (i j : ℕ) → nat_lt j i ≡ x → (j == i) ≡ y
    → is_lt (ordering_then (cond x Less (cond y Equal Greater)) o) ≡ false → (i < j) ⊎ ((i ≡ j) × (is_lt o ≡ false))
decide true y o i j lt same h = search rules
decide false true o i j lt same h = inr (sym (number j i same), h)
decide false false o i j lt same h = inl (grind (arith, nat_tests))

-- what the order of two paths says of their first places
heads : (i j : ℕ) (a b : Path) → is_lt (slice_cmp nat_cmp (j ∷ b) (i ∷ a)) ≡ false → (i < j) ⊎ ((i ≡ j) × (is_lt (slice_cmp nat_cmp b a) ≡ false))
heads i j a b h = decide (nat_lt j i) (j == i) (slice_cmp nat_cmp b a) i j refl refl h

other : (i j : ℕ) → i < j → (i == j) ≡ false
other i j l = grind (arith, nat_tests)

same : (i j : ℕ) → i ≡ j → (i == j) ≡ true
same i j e = grind (arith, nat_tests)

meets-other : (test : Path → Bool) (h k : Bool) (i j : ℕ) (a b : Path) → i < j → meets test h k (i ∷ a) (j ∷ b) ≡ part test h k i a j b
meets-other test h k i j a b l = ap (λ t. cond t (meets (λ p. test (i ∷ p)) h k a b) (part test h k i a j b)) (other i j l)

meets-same : (test : Path → Bool) (h k : Bool) (i j : ℕ) (a b : Path) → i ≡ j → meets test h k (i ∷ a) (j ∷ b) ≡ meets (λ p. test (i ∷ p)) h k a b
meets-same test h k i j a b e = ap (λ t. cond t (meets (λ p. test (i ∷ p)) h k a b) (part test h k i a j b)) (same i j e)

first_goes_on : (test : Path → Bool) (h k : Bool) (i : ℕ) (a b : Path) → meets test h k a b ≡ true → is_same (parent (i ∷ a)) [] ≡ false
first_goes_on test h k i [] b e = search rules
first_goes_on test h k i (x ∷ a) b e = ap (λ p. is_same p []) (parent-more i x a)

never : (b : Bool) → true ≡ false → b ≡ false
never true e = e
never false e = refl

second_goes_on : (test : Path → Bool) (h k : Bool) (j : ℕ) (a b : Path) → meets test h k a b ≡ true → is_same (parent (j ∷ b)) [] ≡ false
second_goes_on test h k j a [] e = never (is_same (parent (j ∷ [])) []) (sym e ∙ meets-turned test h k a [])
second_goes_on test h k j a (y ∷ b) e = ap (λ p. is_same p []) (parent-more j y b)

not_and : (h b : Bool) → b ≡ false → not (h && b) ≡ true
not_and true b e = ap not e
not_and false b e = refl

outer : (t p q r s : Bool) → (t && p && q) ≡ true → (t && r && s) ≡ true → (t && p && s) ≡ true
outer true true q r s d e = second_true r s e
outer true false q r s d e = d
outer false p q r s d e = d

-- along the order, orthogonal to the next is orthogonal to what the next is orthogonal to
meets-chain : (test : Path → Bool) (h k l : Bool) (a b x : Path) → is_lt (slice_cmp nat_cmp b a) ≡ false → is_lt (slice_cmp nat_cmp x b) ≡ false
    → meets test h k a b ≡ true → meets test k l b x ≡ true → meets test h l a x ≡ true
meets-chain test h k l [] b x p q u v = u
meets-chain test h k l (i ∷ a) [] x p q u v = search rules
meets-chain test h k l (i ∷ a) (j ∷ b) [] p q u v = v
meets-chain test h k l (i ∷ a) (j ∷ b) (m ∷ x) p q u v = elim (heads i j a b p) [
  | inl ij ↦ elim (heads j m b x q) [
    | inl jm ↦ meets-other test h l i m a x (omega (arith, ij, jm))
        ∙ outer (test []) (not (h && is_same (parent (i ∷ a)) [])) (not (k && is_same (parent (j ∷ b)) [])) (not (k && is_same (parent (j ∷ b)) [])) (not (l && is_same (parent (m ∷ x)) []))
        (sym (meets-other test h k i j a b ij) ∙ u) (sym (meets-other test k l j m b x jm) ∙ v)
    | inr s ↦ meets-other test h l i m a x (omega (arith, ij, s.0))
        ∙ both_true (test [] && not (h && is_same (parent (i ∷ a)) [])) (not (l && is_same (parent (m ∷ x)) []))
        (first_true (test [] && not (h && is_same (parent (i ∷ a)) [])) (not (k && is_same (parent (j ∷ b)) [])) (sym (meets-other test h k i j a b ij) ∙ u))
        (not_and l (is_same (parent (m ∷ x)) []) (second_goes_on (λ p. test (j ∷ p)) k l m b x (sym (meets-same test k l j m b x s.0) ∙ v)))
  ]
  | inr r ↦ elim (heads j m b x q) [
    | inl jm ↦ meets-other test h l i m a x (omega (arith, r.0, jm))
        ∙ both_true (test [] && not (h && is_same (parent (i ∷ a)) [])) (not (l && is_same (parent (m ∷ x)) []))
        (both_true (test []) (not (h && is_same (parent (i ∷ a)) []))
        (first_true (test []) (not (k && is_same (parent (j ∷ b)) [])) (first_true (test [] && not (k && is_same (parent (j ∷ b)) [])) (not (l && is_same (parent (m ∷ x)) [])) (sym (meets-other test k l j m b x jm) ∙ v)))
        (not_and h (is_same (parent (i ∷ a)) []) (first_goes_on (λ p. test (i ∷ p)) h k i a b (sym (meets-same test h k i j a b r.0) ∙ u))))
        (second_true (test [] && not (k && is_same (parent (j ∷ b)) [])) (not (l && is_same (parent (m ∷ x)) [])) (sym (meets-other test k l j m b x jm) ∙ v))
    | inr s ↦ meets-same test h l i m a x (r.0 ∙ s.0)
        ∙ meets-chain (λ p. test (i ∷ p)) h k l a b x r.1 s.1 (sym (meets-same test h k i j a b r.0) ∙ u)
        (ap (λ n. meets (λ p. test (n ∷ p)) k l b x) r.0 ∙ sym (meets-same test k l j m b x s.0) ∙ v)
  ]
]

-- targets of a chart

abbrev parallel : Chart → Path → Bool
parallel c path = is_tag tag.Parallel (tag_of (element c path))

abbrev history : Chart → Path → Bool
history c path = is_tag tag.History (tag_of (element c path))

are-meets : (c : Chart) (a b : Path) → are_orthogonal c a b ≡ meets (parallel c) (history c a) (history c b) a b
are-meets c a b = orthogonal-meets (parallel c) (history c a) (history c b) a b

are-turned : (c : Chart) (a b : Path) → are_orthogonal c a b ≡ are_orthogonal c b a
are-turned c a b = are-meets c a b ∙ meets-turned (parallel c) (history c a) (history c b) a b ∙ sym (are-meets c b a)

-- no target is orthogonal to itself
are-itself : (c : Chart) (a : Path) → are_orthogonal c a a ≡ false
are-itself c a = rw (nat_list_eq_equiv.refl a) refl

abbrev less : Path → Path → Bool
less a b = is_lt (slice_cmp nat_cmp a b)

are-chain : (c : Chart) (a b x : Path) → less b a ≡ false → less x b ≡ false
    → are_orthogonal c a b ≡ true → are_orthogonal c b x ≡ true → are_orthogonal c a x ≡ true
are-chain c a b x p q u v = are-meets c a x
    ∙ meets-chain (parallel c) (history c a) (history c b) (history c x) a b x p q (sym (are-meets c a b) ∙ u) (sym (are-meets c b x) ∙ v)

all-pairs : (c : Chart) (paths : List Path) → all_orthogonal c paths ≡ all_pairs (are_orthogonal c) paths
all-pairs c [] = refl
all-pairs c (path ∷ paths) = ap (λ b. list_all (are_orthogonal c path) paths && b) (all-pairs c paths)

module _ {X : Type 0} (f : X → Path) where
  pairs-map : (c : Chart) (xs : List X) → all_pairs (λ x y. are_orthogonal c (f x) (f y)) xs ≡ all_pairs (are_orthogonal c) (map f xs)
  pairs-map c [] = refl
  pairs-map c (x ∷ xs) = ap₂ (λ a b. a && b) (sym (list_all-map (are_orthogonal c (f x)) f xs)) (pairs-map c xs)

  -- of targets that were put in order, neighbours tell whether all were orthogonal
  pub neighbours_tell : (c : Chart) (paths : List Path) (ordered : List X) → IsPermutation paths (map f ordered)
      → IsSortedByKey f (slice_cmp nat_cmp) ordered → all_neighbours (λ x y. are_orthogonal c (f x) (f y)) ordered ≡ all_orthogonal c paths
  neighbours_tell c paths ordered p up =
      neighbours_enough (λ x y. are_orthogonal c (f x) (f y)) (λ x y. less (f x) (f y)) (ranks_by nat_list_cmp_total f)
      (λ x y z. are-chain c (f x) (f y) (f z)) ordered up
      ∙ pairs-map c ordered
      ∙ sym (all_pairs-permuted (are_orthogonal c) (are-turned c) (are-itself c) paths (map f ordered) p)
      ∙ sym (all-pairs c paths)

-- a list is in another order where a list that it was made of is
pub moved : {X Y : Type 0} (f : X → Y) (ys : List Y) (xs zs : List X) → map f xs ≡ ys → IsPermutation xs zs → IsPermutation ys (map f zs)
moved f ys xs zs e p = subst (λ us. IsPermutation us (map f zs)) e (IsPermutation-map f xs zs p)
