-- Numbers of decimal digits.
use Rattle.std.proofs.Common.{◌≡◌, ℕ, ◌<◌, ◌^◌, true, nat_lt, Result, Ok, Err, List, length, sym, rules, inl, inr}
use Rattle.std.proofs.lemmas.Bool.{cases_lt, lt-ltb, le-ltb}
use Rattle.std.proofs.lemmas.Fmt.{IsAscii-from_digits}
use Rattle.std.proofs.lemmas.Str.{IsUtf8-from_ascii}
use Rattle.std.proofs.lemmas.Str.Parse.{IsNumeralModel, numerals_by_value, parse_digits}
use Rattle.std.specs.Result.{OkIff, is_ok}
use Rattle.std.specs.Str.{IsUtf8}
use Rattle.std.specs.Str.Parse.{digits_value, ParsesUnsigned}
use Rattle.sc_types.specs.Delays.{are_digits}

own : IsNumeralModel (λ ds. are_digits ds ≡ true) (digits_value 10)
own = numerals_by_value _ (search rules)

decided : {E : Type 0} (size value most : ℕ) (r : Result ℕ E) → OkIff r ((0 < size) × (value < most)) value → 0 < size → is_ok r ≡ nat_lt value most
decided size value most (Ok x) h some = sym (lt-ltb value most h.0.1)
decided size value most (Err e) h some = elim (cases_lt value most) [ inl k ↦ absurd (h (some, k)) | inr k ↦ sym (le-ltb value most k) ]

-- digits are read exactly where their number has 32 bits
pub is_ok-parsed : {E : Type 0} (text : List ℕ) (r : Result ℕ E) → ParsesUnsigned 32 10 text r → 0 < length text → are_digits text ≡ true
    → is_ok r ≡ nat_lt (digits_value 10 text) (2 ^ 32)
is_ok-parsed text r h some each = decided (length text) (digits_value 10 text) (2 ^ 32) r (parse_digits own 32 text r h each) some

-- digits are a text
pub no_digits : (text : List ℕ) → (IsUtf8 text → ⊥) → are_digits text ≡ true → ⊥
no_digits text n each = n (IsUtf8-from_ascii text (IsAscii-from_digits text (own.to text each)))
