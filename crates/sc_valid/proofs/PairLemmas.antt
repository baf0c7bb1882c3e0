-- Lists of which each two items stand in a relation, whatever their order, and where neighbours tell of all.
use Rattle.std.proofs.Common.{◌≡◌, ℕ, ◌+◌, ◌<◌, ◌≤◌, suc, Bool, true, false, cond, ◌&&◌, List, [], ◌∷◌, length, get_or, refl, sym, ap, ◌∙◌, arith, rules}
use Rattle.std.specs.Cmp.{both_ways, IsStrictWeakOrder}
use Rattle.std.specs.List.{list_all, sum_by, All}
use Rattle.std.specs.List.Sorted.{IsPermutation, IsSortedBy}
use Rattle.std.proofs.lemmas.List.Elements.{All-cons, All-head, All-tail}
use Rattle.std.proofs.lemmas.List.Sorted.{All-permutation, IsPermutation-sym, sum_by-IsPermutation}
use Rattle.std.proofs.lemmas.List.Sums.{AllPass-from_list_all, sum_by-cons}
use Rattle.sc_valid.specs.Neighbours.{all_neighbours}

abbrev pub all_pairs : {X : Type 0} → (X → X → Bool) → List X → Bool
all_pairs test [] = true
all_pairs test (x ∷ xs) = list_all (test x) xs && all_pairs test xs

-- two tests together

pub and_false : (b : Bool) → (b && false) ≡ false
and_false true = refl
and_false false = refl

pub first_true : (a b : Bool) → (a && b) ≡ true → a ≡ true
first_true true b e = refl
first_true false b e = e

pub second_true : (a b : Bool) → (a && b) ≡ true → b ≡ true
second_true true b e = e
second_true false b e = search rules

pub both_true : (a b : Bool) → a ≡ true → b ≡ true → (a && b) ≡ true
both_true true b d e = e
both_true false b d e = d

cond_misses : (b : Bool) (n : ℕ) (rest : Bool) → cond b 0 1 + n ≡ 0 → (n ≡ 0 → rest ≡ true) → (b && rest) ≡ true
cond_misses true n rest h go = go (omega (arith, h))
cond_misses false n rest h go = grind arith

cond_none : (b : Bool) (n : ℕ) → b ≡ true → n ≡ 0 → cond b 0 1 + n ≡ 0
cond_none true n e z = omega (arith, z)
cond_none false n e z = search rules

cond_itself : (b : Bool) (n : ℕ) → b ≡ false → cond b 0 1 + n ≤ 1 → n ≡ 0
cond_itself true n e h = search rules
cond_itself false n e h = omega arith

cond_most : (b : Bool) (n : ℕ) → n ≡ 0 → cond b 0 1 + n ≤ 1
cond_most true n e = omega arith
cond_most false n e = omega arith

cond_other : (b : Bool) (n : ℕ) → b ≡ true → n ≤ 1 → cond b 0 1 + n ≤ 1
cond_other true n e h = omega (arith, h)
cond_other false n e h = search rules

module _ {X : Type 0} (test : X → X → Bool) where
  -- how many items of a list do not pass with x
  missed : X → List X → ℕ
  missed x ys = sum_by (λ y. cond (test x y) 0 1) ys

  missed-nil : (x : X) → missed x [] ≡ 0
  unfolding missed
  missed-nil x = refl

  missed-cons : (x y : X) (ys : List X) → missed x (y ∷ ys) ≡ cond (test x y) 0 1 + missed x ys
  unfolding missed
  missed-cons x y ys = sum_by-cons (λ y. cond (test x y) 0 1) y ys

  missed-permuted : (x : X) (xs ys : List X) → IsPermutation xs ys → missed x ys ≡ missed x xs
  unfolding missed
  missed-permuted x xs ys p = sum_by-IsPermutation (λ y. cond (test x y) 0 1) xs ys p

  none_missed : (x : X) (ys : List X) → missed x ys ≡ 0 → list_all (test x) ys ≡ true
  none_missed x [] h = refl
  none_missed x (y ∷ ys) h =
      cond_misses (test x y) (missed x ys) (list_all (test x) ys) (sym (missed-cons x y ys) ∙ h) (none_missed x ys)

  misses_none : (x : X) (ys : List X) → list_all (test x) ys ≡ true → missed x ys ≡ 0
  misses_none x [] h = missed-nil x
  misses_none x (y ∷ ys) h =
      missed-cons x y ys ∙ cond_none (test x y) (missed x ys) (first_true (test x y) (list_all (test x) ys) h)
      (misses_none x ys (second_true (test x y) (list_all (test x) ys) h))

  -- fewer than two items have no neighbours
  pub neighbours_end : (xs : List X) → length xs < 2 → all_neighbours test xs ≡ true
  neighbours_end [] h = refl
  neighbours_end (x ∷ []) h = refl
  neighbours_end (x ∷ y ∷ xs) h = grind arith

  module _ (symmetric : (x y : X) → test x y ≡ test y x) (other : (x : X) → test x x ≡ false) where
    -- where each two pass, an item misses none but itself
    from_misses : (xs : List X) → All (λ x. missed x xs ≤ 1) xs → all_pairs test xs ≡ true
    from_misses [] h = refl
    from_misses (x ∷ xs) h = both_true (list_all (test x) xs) (all_pairs test xs) (none_missed x xs here) (from_misses xs later) where
      here : missed x xs ≡ 0
      here =
          let most = All-head (λ y. missed y (x ∷ xs) ≤ 1) x xs h in
          let is = missed-cons x x xs in
          cond_itself (test x x) (missed x xs) (other x) (omega (arith, most, is))

      later : All (λ y. missed y xs ≤ 1) xs
      later k d w =
          let most = All-tail (λ y. missed y (x ∷ xs) ≤ 1) x xs h k d w in
          let is = missed-cons (get_or xs k d) x xs in
          omega (arith, most, is)

    to_misses : (xs : List X) → all_pairs test xs ≡ true → All (λ x. missed x xs ≤ 1) xs
    to_misses [] e = λ k d w. omega arith
    to_misses (x ∷ xs) e = All-cons (λ y. missed y (x ∷ xs) ≤ 1) x xs here
        (later (to_misses xs (second_true (list_all (test x) xs) (all_pairs test xs) e))) where
          all : list_all (test x) xs ≡ true
          all = first_true (list_all (test x) xs) (all_pairs test xs) e

          here : missed x (x ∷ xs) ≤ 1
          here =
              let is = missed-cons x x xs in
              let most = cond_most (test x x) (missed x xs) (misses_none x xs all) in
              omega (arith, is, most)

          later : All (λ y. missed y xs ≤ 1) xs → All (λ y. missed y (x ∷ xs) ≤ 1) xs
          later below k d w =
              let is = missed-cons (get_or xs k d) x xs in
              let passes = symmetric (get_or xs k d) x ∙ AllPass-from_list_all (test x) xs all k d w in
              let most = cond_other (test (get_or xs k d) x) (missed (get_or xs k d) xs) passes (below k d w) in
              omega (arith, is, most)

    kept : (xs ys : List X) → IsPermutation xs ys → all_pairs test xs ≡ true → all_pairs test ys ≡ true
    kept xs ys p e = from_misses ys by where
      moved : All (λ x. missed x xs ≤ 1) ys
      moved = All-permutation (λ x. missed x xs ≤ 1) xs ys p (to_misses xs e)

      by : All (λ x. missed x ys ≤ 1) ys
      by k d w =
          let same = missed-permuted (get_or ys k d) xs ys p in
          let most = moved k d w in
          omega (arith, same, most)

    -- the order of the items tells nothing of their pairs
    pub all_pairs-permuted : (xs ys : List X) → IsPermutation xs ys → all_pairs test xs ≡ all_pairs test ys
    all_pairs-permuted xs ys p =
        both_ways (all_pairs test xs) (all_pairs test ys) (kept xs ys p) (kept ys xs (IsPermutation-sym xs ys p))

  module _ (lt : X → X → Bool) (order : IsStrictWeakOrder lt)
      (chain : (x y z : X) → lt y x ≡ false → lt z y ≡ false → test x y ≡ true → test y z ≡ true → test x z ≡ true) where
    -- none of a list is less than the item before it, the first of which is x
    abbrev Rises : X → List X → Type 0
    Rises x [] = Unit {0}
    Rises x (y ∷ ys) = (lt y x ≡ false) × Rises y ys

    next : (k : ℕ) → suc (k + 1) ≡ suc k + 1
    next k = omega arith

    rises : (x : X) (xs : List X) → IsSortedBy lt (x ∷ xs) → Rises x xs
    rises x [] h = tt
    rises x (y ∷ ys) h = (
      h 0 x (omega arith) (omega arith),
      rises y ys (λ k d least within.
          ap (λ n. lt (get_or (x ∷ y ∷ ys) n d) (get_or (y ∷ ys) k d)) (next k) ∙ h (suc k) d (omega arith) (omega arith)),
    )

    -- an item that passes with its neighbour passes with all behind it
    passes_far : (x : X) (xs : List X) → Rises x xs → all_neighbours test (x ∷ xs) ≡ true → list_all (test x) xs ≡ true
    passes_far x [] h e = refl
    passes_far x (y ∷ []) h e = e
    passes_far x (y ∷ z ∷ zs) h e =
        let rest = second_true (test x y) (test y z && all_neighbours test (z ∷ zs)) e in
        let here = first_true (test x y) (test y z && all_neighbours test (z ∷ zs)) e in
        let next = chain x y z h.0 (h.1).0 here (first_true (test y z) (all_neighbours test (z ∷ zs)) rest) in
        both_true (test x y) (list_all (test x) (z ∷ zs)) here
        (passes_far x (z ∷ zs) (order.chain z y x (h.1).0 h.0, (h.1).1)
        (both_true (test x z) (all_neighbours test (z ∷ zs)) next (second_true (test y z) (all_neighbours test (z ∷ zs)) rest)))

    neighbours_are : (x : X) (xs : List X) → Rises x xs → all_neighbours test (x ∷ xs) ≡ all_pairs test (x ∷ xs)
    neighbours_are x [] h = refl
    neighbours_are x (y ∷ ys) h =
        both_ways (all_neighbours test (x ∷ y ∷ ys)) (all_pairs test (x ∷ y ∷ ys)) (to (neighbours_are y ys h.1)) (from (neighbours_are y ys h.1)) where
          to : all_neighbours test (y ∷ ys) ≡ all_pairs test (y ∷ ys) → all_neighbours test (x ∷ y ∷ ys) ≡ true → all_pairs test (x ∷ y ∷ ys) ≡ true
          to below e = both_true (list_all (test x) (y ∷ ys)) (all_pairs test (y ∷ ys)) (passes_far x (y ∷ ys) h e)
              (sym below ∙ second_true (test x y) (all_neighbours test (y ∷ ys)) e)

          from : all_neighbours test (y ∷ ys) ≡ all_pairs test (y ∷ ys) → all_pairs test (x ∷ y ∷ ys) ≡ true → all_neighbours test (x ∷ y ∷ ys) ≡ true
          from below e = both_true (test x y) (all_neighbours test (y ∷ ys))
              (first_true (test x y) (list_all (test x) ys) (first_true (list_all (test x) (y ∷ ys)) (all_pairs test (y ∷ ys)) e))
              (below ∙ second_true (list_all (test x) (y ∷ ys)) (all_pairs test (y ∷ ys)) e)

    -- in order, neighbours tell of all pairs
    pub neighbours_enough : (xs : List X) → IsSortedBy lt xs → all_neighbours test xs ≡ all_pairs test xs
    neighbours_enough [] h = refl
    neighbours_enough (x ∷ xs) h = neighbours_are x xs (rises x xs h)
