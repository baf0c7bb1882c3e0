-- What std reads as a number, and the numbers that words write.
use Rattle.std.proofs.Common.{◌≡◌, ℕ, ◌<◌, ◌^◌, ◌&&◌, Bool, true, false, if◌then◌else◌, nat_lt, Some, None, Result, Ok, Err, List, length, refl, ap, ◌∙◌, inl, inr}
use Rattle.std.proofs.lemmas.Bool.{cases_lt, lt-ltb, le-ltb}
use Rattle.std.proofs.lemmas.Str.Parse.{IsNumeralModel, numerals_by_value, tells_all_ascii_digits}
use Rattle.std.specs.Result.{OkIff, result_ok}
use Rattle.std.specs.Str.{all_ascii_digits}
use Rattle.std.specs.Str.Parse.{IsNumeral, ParsesUnsigned, digits_value, without_leading_plus}
use Rattle.sc_words.specs.Numbers.{digits_below, number_of}

own : IsNumeralModel (λ ds. all_ascii_digits ds ≡ true) (digits_value 10)
own = numerals_by_value _ tells_all_ascii_digits

yes : (bound : ℕ) (ds : List ℕ) → IsNumeral 10 ds → digits_value 10 ds < bound → Some (digits_value 10 ds) ≡ digits_below bound ds
yes bound ds h k = rw (lt-ltb 0 (length ds) h.0, own.from ds h.1, lt-ltb (digits_value 10 ds) bound k)

no : (bound size value : ℕ) (d : Bool) → ¬ ((0 < size) × (d ≡ true) × (value < bound))
    → None ≡ (if nat_lt 0 size && d && nat_lt value bound then Some value else None)
no bound size value false n = elim (cases_lt 0 size) [ inl h ↦ rw (lt-ltb 0 size h) | inr h ↦ rw (le-ltb 0 size h) ]
no bound size value true n = elim (cases_lt 0 size) [
  | inl h ↦ elim (cases_lt value bound) [
    | inl k ↦ absurd (n (h, refl, k))
    | inr k ↦ rw (lt-ltb 0 size h, le-ltb value bound k)
  ]
  | inr h ↦ rw (le-ltb 0 size h)
]

read : {E : Type 0} (bound : ℕ) (ds : List ℕ) (r : Result ℕ E) → OkIff r (IsNumeral 10 ds × (digits_value 10 ds < bound)) (digits_value 10 ds)
    → result_ok r ≡ digits_below bound ds
read bound ds (Ok x) h = ap (λ n. Some n) h.1 ∙ yes bound ds h.0.0 h.0.1
read bound ds (Err e) h =
    no bound (length ds) (digits_value 10 ds) (all_ascii_digits ds) (λ p. h ((p.0, own.to ds p.1), p.2))

-- std reads the number that a word writes, and no other
pub parsed : {E : Type 0} (text : List ℕ) (r : Result ℕ E) → ParsesUnsigned 64 10 text r → result_ok r ≡ number_of text
parsed text r h = read (2 ^ 64) (without_leading_plus text) r h
