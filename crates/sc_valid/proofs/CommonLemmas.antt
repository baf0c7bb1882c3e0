-- What two paths have in common, found place by place.
use Rattle.std.proofs.Common.{◌≡◌, ℕ, ◌≤◌, ◌<◌, ◌+◌, ◌==◌, false, List, [], ◌∷◌, ◌++◌, length, take, drop, get_or, append-nil, refl, sym, ap, ◌∙◌}
use Rattle.std.proofs.lemmas.List.{drop_more}
use Rattle.std.proofs.Math.ListN.{drop_of_length-le}
use Rattle.sc_law.specs.Legality.{common}

nothing_left : (a b : List ℕ) (n : ℕ) → take n a ++ common (drop n a) (drop n b) ≡ common a b → common (drop n a) (drop n b) ≡ [] → take n a ≡ common a b
nothing_left a b n so_far none = sym (append-nil (take n a)) ∙ ap (λ rest. take n a ++ rest) (sym none) ∙ so_far

common-nil : (a : List ℕ) → common a [] ≡ []
common-nil [] = refl
common-nil (x ∷ a) = refl

-- where the first path ends, all that was passed is common
pub first_ends : (a b : List ℕ) (n : ℕ) → take n a ++ common (drop n a) (drop n b) ≡ common a b → length a ≤ n → take n a ≡ common a b
first_ends a b n so_far h = nothing_left a b n so_far (ap (λ rest. common rest (drop n b)) (drop_of_length-le a h))

-- where the second path ends, all that was passed is common
pub second_ends : (a b : List ℕ) (n : ℕ) → take n a ++ common (drop n a) (drop n b) ≡ common a b → length b ≤ n → take n a ≡ common a b
second_ends a b n so_far h = nothing_left a b n so_far (ap (common (drop n a)) (drop_of_length-le b h) ∙ common-nil (drop n a))

-- where two places differ, no more is common than was passed
pub they_part : (a b : List ℕ) (n : ℕ) → take n a ++ common (drop n a) (drop n b) ≡ common a b → n < length a → n < length b
    → (get_or a n 0 == get_or b n 0) ≡ false → take n a ≡ common a b
they_part a b n so_far in_a in_b other = nothing_left a b n so_far
    (ap (λ rest. common rest (drop n b)) (drop_more a n 0 in_a) ∙ ap (common (get_or a n 0 ∷ drop (n + 1) a)) (drop_more b n 0 in_b) ∙ rw other refl)
