-- Spaces at the end of a text.
use Rattle.std.proofs.Common.{◌≡◌, ℕ, zero, suc, ◌-◌, ◌<◌, ◌≤◌, true, false, List, [], ◌∷◌, ◌++◌, length, take, get_or, refl, ap, sym, ◌∙◌, arith}
use Rattle.sc_script.specs.Lines.{is_space, before_last, without_last_spaces}

-- a space at the end is dropped
pub dropped_space : (xs : List ℕ) (b : ℕ) → is_space b ≡ true
    → without_last_spaces (xs ++ b ∷ []) ≡ without_last_spaces xs
unfolding without_last_spaces
dropped_space [] b h = rw h
dropped_space (x ∷ xs) b h = ap (before_last x) (dropped_space xs b h)

kept : (x : ℕ) (xs : List ℕ) (b : ℕ) → before_last x (xs ++ b ∷ []) ≡ x ∷ (xs ++ b ∷ [])
kept x [] b = refl
kept x (y ∷ ys) b = refl

-- a text that ends in another byte stays
pub kept_end : (xs : List ℕ) (b : ℕ) → is_space b ≡ false → without_last_spaces (xs ++ b ∷ []) ≡ xs ++ b ∷ []
unfolding without_last_spaces
kept_end [] b h = rw h
kept_end (x ∷ xs) b h = ap (before_last x) (kept_end xs b h) ∙ kept x xs b

pub nothing_left : without_last_spaces [] ≡ []
unfolding without_last_spaces
nothing_left = refl

-- what stands before the last byte, and that byte
split_last : (xs : List ℕ) (n : ℕ) → length xs ≡ suc n → xs ≡ take n xs ++ get_or xs n 0 ∷ []
split_last [] n h = absurd (omega arith)
split_last (x ∷ []) zero h = refl
split_last (x ∷ []) (suc n) h = absurd (omega arith)
split_last (x ∷ y ∷ ys) zero h = absurd (omega arith)
split_last (x ∷ y ∷ ys) (suc n) h = ap (λ t. x ∷ t) (split_last (y ∷ ys) n (omega arith))

-- a last byte that is a space is dropped
pub drops_last : (xs : List ℕ) → 1 ≤ length xs → is_space (get_or xs (length xs - 1) 0) ≡ true
    → without_last_spaces (take (length xs - 1) xs) ≡ without_last_spaces xs
drops_last xs h s =
    sym (dropped_space (take (length xs - 1) xs) (get_or xs (length xs - 1) 0) s)
    ∙ ap without_last_spaces (sym (split_last xs (length xs - 1) (omega arith)))

-- a text whose last byte is none stays
pub keeps_last : (xs : List ℕ) → 1 ≤ length xs → is_space (get_or xs (length xs - 1) 0) ≡ false
    → without_last_spaces xs ≡ xs
keeps_last xs h s =
    let e = split_last xs (length xs - 1) (omega arith) in
    ap without_last_spaces e ∙ kept_end (take (length xs - 1) xs) (get_or xs (length xs - 1) 0) s ∙ sym e

-- of no bytes none stay
pub keeps_none : (xs : List ℕ) → length xs < 1 → without_last_spaces xs ≡ xs
keeps_none [] h = nothing_left
keeps_none (x ∷ xs) h = absurd (omega arith)
