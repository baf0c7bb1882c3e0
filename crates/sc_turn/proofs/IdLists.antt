-- The ids of the states up to one.
use Rattle.std.proofs.Common.{◌≡◌, ℕ, ◌+◌, ◌++◌, zero, suc, Option, Some, None, List, [], filter_map, refl, arith, ap, ◌∙◌, add-one}
use Rattle.std.specs.List.{cons_option, range_with_len}

module _ {A : Type 0} where
  cons-append : (o : Option A) (xs ys : List A) → cons_option o (xs ++ ys) ≡ cons_option o xs ++ ys
  cons-append (Some x) xs ys = refl
  cons-append None xs ys = refl

module _ {A : Type 0} (h : ℕ → Option A) where
  more-from : (a n k : ℕ) → a + n ≡ k
      → filter_map h (range_with_len a (suc n)) ≡ filter_map h (range_with_len a n) ++ cons_option (h k) []
  more-from a zero k e = let same : a ≡ k = omega arith in ap (λ i. cons_option (h i) []) same
  more-from a (suc n) k e =
      ap (cons_option (h a)) (more-from (a + 1) n k (omega arith))
      ∙ cons-append (h a) (filter_map h (range_with_len (a + 1) n)) (cons_option (h k) [])

-- one number more
pub ids-more : {A : Type 0} (h : ℕ → Option A) (n : ℕ)
    → filter_map h (range_with_len 0 (n + 1)) ≡ filter_map h (range_with_len 0 n) ++ cons_option (h n) []
ids-more h n = ap (λ k. filter_map h (range_with_len 0 k)) (add-one n) ∙ more-from h 0 n n (omega arith)
