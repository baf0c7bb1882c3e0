-- The numbers of a delay are short.
use Rattle.std.proofs.Common.{◌≡◌, ℕ, ◌<◌, ◌≤◌, ◌^◌, ◌&&◌, Bool, true, false, cond, if◌then◌else◌, nat_lt, Option, Some, None, List, [], ◌∷◌, length, refl, arith, ap, sym, ◌∙◌, subst}
use Rattle.std.proofs.lemmas.Bool.{lt-ltb}
use Rattle.std.proofs.lemmas.List.Sums.{take_while-cons}
use Rattle.std.proofs.lemmas.Str.Parse.{digits_value_short}
use Rattle.std.specs.List.{take_while}
use Rattle.std.specs.Prelude.{IfSome}
use Rattle.std.specs.Str.Parse.{digits_value}
use Rattle.sc_base.specs.Text.{is_digit}
use Rattle.sc_types.specs.Delays.{are_digits}
use Rattle.sc_expr.specs.Numbers.{digits_number, short_number}
use Rattle.sc_expr.proofs.NumberLemmas.{own, all_true}

-- ---- at most 13 digits

short_value : (text : List ℕ) → length text ≤ 13 → are_digits text ≡ true → digits_value 10 text < 10 ^ 13
short_value text h d = digits_value_short own text 13 d h

short_if : (size n : ℕ) (d : Bool) → 0 < size → (d ≡ true → n < 10 ^ 13)
    → (if nat_lt 0 size && d then (if nat_lt n (2 ^ 64) then Some n else None) else None) ≡ (if d then Some n else None)
short_if size n true h s = let k : n < 10 ^ 13 = s refl in rw (lt-ltb 0 size h, lt-ltb n (2 ^ 64) (omega arith))
short_if size n false h s = rw (lt-ltb 0 size h)

bound_if : (n : ℕ) (d : Bool) → (d ≡ true → n < 10 ^ 13) → IfSome (if d then Some n else None) (λ n. n < 10 ^ 13)
bound_if n true s = s refl
bound_if n false s = tt

-- at most 13 digits are a number of 64 bits
pub short_digits : (text : List ℕ) → 0 < length text → length text ≤ 13 → digits_number text ≡ short_number text
short_digits text h k = short_if (length text) (digits_value 10 text) (are_digits text) h (short_value text k)

-- a number of at most 13 digits is below 10^13
pub short_bound : (text : List ℕ) (o : Option ℕ) → o ≡ short_number text → length text ≤ 13 → IfSome o (λ n. n < 10 ^ 13)
short_bound text o e k =
    let P : Option ℕ → Type 0 = λ o. IfSome o (λ n. n < 10 ^ 13) in
    subst P (sym e) (bound_if (digits_value 10 text) (are_digits text) (short_value text k))

-- ---- the digits at the front

digits_if : (b : ℕ) (rest : List ℕ) (v : Bool) → is_digit b ≡ v → are_digits rest ≡ true → are_digits (cond v (b ∷ rest) []) ≡ true
digits_if b rest true e h = all_true (is_digit b) (are_digits rest) e h
digits_if b rest false e h = refl

-- what stands before the first byte that is no digit is digits
pub digits_front : (text : List ℕ) → are_digits (take_while is_digit text) ≡ true
digits_front [] = refl
digits_front (b ∷ rest) = ap are_digits (take_while-cons is_digit b rest) ∙ digits_if b (take_while is_digit rest) (is_digit b) refl (digits_front rest)
