-- Numbers and the digits that write them.
use Rattle.std.proofs.Common.{◌≡◌, ℕ, ◌<◌, ◌^◌, ◌==◌, ◌&&◌, Bool, true, false, if◌then◌else◌, nat_lt, Option, Some, None, Result, Ok, Err, List, length, get_or, refl, arith, ap, sym, subst, ◌∙◌, rules, inl, inr, ◌≤◌}
use Rattle.std.proofs.lemmas.Bool.{cases_lt, lt-ltb, le-ltb, ltb-true, eqb-true}
use Rattle.std.proofs.lemmas.Bool.Decides.{nat_tests}
use Rattle.std.proofs.lemmas.Fmt.{decimal_is_IsNumeral, decimal-digits_value, first_decimal, decimal_digit, IsAscii-from_digits}
use Rattle.std.proofs.lemmas.Slice.Eq.{bytes_eq-Decides}
use Rattle.std.proofs.lemmas.Str.{IsUtf8-from_ascii}
use Rattle.std.proofs.lemmas.Str.Parse.{IsNumeralModel, numerals_by_value, parse_digits}
use Rattle.std.specs.Fmt.{decimal}
use Rattle.std.specs.Result.{OkIff, result_ok}
use Rattle.std.specs.Str.{IsUtf8, bytes_eq}
use Rattle.std.specs.Str.Parse.{digits_value, ParsesUnsigned}
use Rattle.sc_types.specs.Delays.{are_digits}
use Rattle.sc_types.specs.Tokens.{number_of}
use Rattle.sc_expr.specs.Numbers.{below, digits_number, has_leading_zero}

-- texts of digits write the numbers that std reads in them
pub own : IsNumeralModel (λ ds. are_digits ds ≡ true) (digits_value 10)
own = numerals_by_value _ (search rules)

-- ---- digits

cut_yes : (most size value : ℕ) → 0 < size → value < most → Some value ≡ (if nat_lt 0 size && true then (if nat_lt value most then Some value else None) else None)
cut_yes most size value h k = rw (lt-ltb 0 size h, lt-ltb value most k)

cut_no : (most size value : ℕ) → ¬ ((0 < size) × (value < most)) → None ≡ (if nat_lt 0 size && true then (if nat_lt value most then Some value else None) else None)
cut_no most size value n = elim (cases_lt 0 size) [
  | inl h ↦ elim (cases_lt value most) [ inl k ↦ absurd (n (h, k)) | inr k ↦ rw (lt-ltb 0 size h, le-ltb value most k) ]
  | inr h ↦ rw (le-ltb 0 size h)
]

parsed_number : {E : Type 0} (most size value : ℕ) (r : Result ℕ E) → OkIff r ((0 < size) × (value < most)) value
    → result_ok r ≡ (if nat_lt 0 size && true then (if nat_lt value most then Some value else None) else None)
parsed_number most size value (Ok x) h = ap (λ n. Some n) h.1 ∙ cut_yes most size value h.0.0 h.0.1
parsed_number most size value (Err e) h = cut_no most size value h

-- digits are read by std exactly as the number of 64 bits that they write
pub parsed : {E : Type 0} (text : List ℕ) (r : Result ℕ E) → ParsesUnsigned 64 10 text r → are_digits text ≡ true → result_ok r ≡ digits_number text
parsed text r h d =
    parsed_number (2 ^ 64) (length text) (digits_value 10 text) r (parse_digits own 64 text r h d)
    ∙ ap (λ v. if nat_lt 0 (length text) && v then below (2 ^ 64) (Some (digits_value 10 text)) else None) (sym d)

-- digits are UTF-8
pub no_text : (text : List ℕ) → (IsUtf8 text → ⊥) → are_digits text ≡ true → None ≡ digits_number text
no_text text n d = absurd (n (IsUtf8-from_ascii text (IsAscii-from_digits text (own.to text d))))

-- ---- a number, and how it is written

pub record IsWritten (text : List ℕ) : Type 0 where
  pub some : 0 < length text
  pub digits : are_digits text ≡ true
  pub first : 1 < length text → get_or text 0 0 ≡ 48 → ⊥

decimal-zero : length (decimal 0) ≡ 1
decimal-zero = ap length (decimal_digit 0 (omega arith))

written-decimal : (n : ℕ) → n < 2 ^ 64 → IsWritten (decimal n)
written-decimal n h = record {
  some = (decimal_is_IsNumeral n h).0.0;
  digits = own.from (decimal n) (decimal_is_IsNumeral n h).0.1;
  first = λ l e. elim (cases_lt 0 n) [
    | inl k ↦ (let f : 48 < get_or (decimal n) 0 0 = first_decimal n k h in absurd (omega arith))
    | inr k ↦ (let z : n ≡ 0 = omega arith in let one : length (decimal n) ≡ 1 = ap (λ n. length (decimal n)) z ∙ decimal-zero in absurd (omega arith))
  ];
}

same_text : (text other : List ℕ) → bytes_eq text other ≡ true → text ≡ other
same_text text other h = (bytes_eq-Decides text other).0 h

written : (text : List ℕ) → digits_value 10 text < 2 ^ 64 → bytes_eq (decimal (digits_value 10 text)) text ≡ true → IsWritten text
written text h e = subst IsWritten (same_text (decimal (digits_value 10 text)) text e) (written-decimal (digits_value 10 text) h)

both : (a b : Bool) → a && b ≡ true → (a ≡ true) × (b ≡ true)
both true true h = (refl, refl)
both true false h = cc
both false b h = cc

-- two tests that pass both pass together
pub all_true : (a b : Bool) → a ≡ true → b ≡ true → a && b ≡ true
all_true a b h k = rw (h, k)

single : (size b : ℕ) → nat_lt 1 size && b == 48 ≡ false → b ≡ 48 → 0 < size → size ≡ 1
single size b h k l = grind (arith, nat_tests)

is_written : (text : List ℕ) → has_leading_zero text ≡ false → digits_value 10 text < 2 ^ 64 → nat_lt 0 (length text) && are_digits text ≡ true
    → bytes_eq (decimal (digits_value 10 text)) text ≡ true
is_written text z h d =
    let p = both (nat_lt 0 (length text)) (are_digits text) d in
    let some : 0 < length text = ltb-true 0 (length text) p.0 in
    (bytes_eq-Decides (decimal (digits_value 10 text)) text).1
    (decimal-digits_value own text p.1 some (λ e. single (length text) (get_or text 0 0) z e some) h)

same_bool : (a b : Bool) → (a ≡ true → b ≡ true) → (b ≡ true → a ≡ true) → a ≡ b
same_bool true b f g = sym (f refl)
same_bool false true f g = g refl
same_bool false false f g = refl

below-if : (c : Bool) (bound n : ℕ) → below bound (if c then Some n else None) ≡ (if c then below bound (Some n) else None)
below-if true bound n = refl
below-if false bound n = refl

above-if : (c d : Bool) (bound n : ℕ) → bound ≤ n → (if c then below bound (Some n) else None) ≡ (if d then below bound (Some n) else None)
above-if c d bound n h = rw (le-ltb n bound h) (by c d)
  where
    by : (c d : Bool) → ◌≡◌ {A = Option ℕ} (if c then None else None) (if d then None else None)
    by true true = refl
    by true false = refl
    by false true = refl
    by false false = refl

-- digits without a leading zero write the number that they stand for
pub number_plain : (text : List ℕ) → has_leading_zero text ≡ false → digits_number text ≡ below (2 ^ 64) (number_of text)
number_plain text z =
    let n = digits_value 10 text in
    let c = nat_lt 0 (length text) && are_digits text in
    let d = bytes_eq (decimal n) text in
    elim (cases_lt n (2 ^ 64)) as (λ _. digits_number text ≡ below (2 ^ 64) (number_of text)) [
      | inl h ↦ ap (λ v. if v then below (2 ^ 64) (Some n) else None) (same_bool c d (is_written text z h) (λ e. let w = written text h e in all_true _ _ (lt-ltb 0 (length text) w.some) w.digits)) ∙ sym (below-if d (2 ^ 64) n)
      | inr h ↦ above-if c d (2 ^ 64) n h ∙ sym (below-if d (2 ^ 64) n)
    ]

not_first : (text : List ℕ) → has_leading_zero text ≡ true → IsWritten text → ⊥
not_first text z w =
    let p = both (nat_lt 1 (length text)) (get_or text 0 0 == 48) z in
    w.first (ltb-true 1 (length text) p.0) (eqb-true (get_or text 0 0) 48 p.1)

not_true : (b : Bool) → (b ≡ true → ⊥) → false ≡ b
not_true true n = absurd (n refl)
not_true false n = refl

-- digits with a leading zero write no number
pub number_with_zero : (text : List ℕ) → has_leading_zero text ≡ true → None ≡ below (2 ^ 64) (number_of text)
number_with_zero text z =
    let n = digits_value 10 text in
    let d = bytes_eq (decimal n) text in
    elim (cases_lt n (2 ^ 64)) as (λ _. None ≡ below (2 ^ 64) (number_of text)) [
      | inl h ↦ ap (λ v. if v then below (2 ^ 64) (Some n) else None) (not_true d (λ e. not_first text z (written text h e))) ∙ sym (below-if d (2 ^ 64) n)
      | inr h ↦ above-if false d (2 ^ 64) n h ∙ sym (below-if d (2 ^ 64) n)
    ]
