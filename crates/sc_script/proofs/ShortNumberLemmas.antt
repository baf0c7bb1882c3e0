-- Numbers of few digits, and the values that they write.
use Rattle.std.proofs.Common.{◌≡◌, ℕ, ◌+◌, ◌*◌, ◌-◌, ◌<◌, ◌≤◌, ◌^◌, ◌==◌, ◌&&◌, Bool, true, false, nat_lt, Some, None, List, length, take, get_or, pos, IsTrue, if◌then◌else◌, refl, ap, sym, ◌∙◌, arith}
use Rattle.std.proofs.lemmas.Bool.{and_parts, cond-true, lt-ltb, ltb-true, leb-true, not-true}
use Rattle.std.specs.Prelude.{None, option_and_then}
use Rattle.std.proofs.lemmas.Bool.Decides.{nat_tests}
use Rattle.std.proofs.lemmas.Fmt.{decimal-digits_value}
use Rattle.std.proofs.lemmas.Int.Digits.{digits_value_more}
use Rattle.std.proofs.lemmas.Str.{digit_value_digit}
use Rattle.std.proofs.lemmas.Str.Parse.{digit_at, digits_value_short, digits_value-take-le}
use Rattle.std.specs.Fmt.{decimal}
use Rattle.std.specs.Str.Parse.{digits_value}
use Rattle.sc_types.specs.Delays.{are_digits}
use Rattle.sc_types.specs.Values.{fits, fits_flat}
use Rattle.sc_types.proofs.ValueLemmas.{fits-Int}
use Rattle.sc_script.specs.Pairs.{flat, posted_value}
use Rattle.sc_types.specs.declared.value.Value.{Value}
use Rattle.sc_types.specs.declared.value.Value.TheVariants.{Int, outs-Int}
use Rattle.sc_expr.proofs.LiteralLemmas.{number-text}
use Rattle.sc_expr.proofs.NumberLemmas.{own}
use Rattle.sc_expr.proofs.PrintedValues.{printed_value}
use Rattle.sc_expr.specs.Numbers.{has_leading_zero}
use Rattle.sc_script.specs.ShortNumbers.{is_short, short_value}

-- the digit at a place
pub a_digit : (text : List ℕ) (i : ℕ) → IsTrue (are_digits text) → i < length text → (48 ≤ get_or text i 0) × (get_or text i 0 ≤ 57)
a_digit text i digits h = let d = digit_at text i (own.to text digits) h in (omega (arith, d), omega (arith, d))

-- one digit more
pub more_digits : (text : List ℕ) (i : ℕ) → IsTrue (are_digits text) → i < length text
    → digits_value 10 (take (i + 1) text) ≡ digits_value 10 (take i text) * 10 + (get_or text i 0 - 48)
more_digits text i digits h =
    let one = digits_value_more 10 text i h in
    let same = digit_value_digit (get_or text i 0) (digit_at text i (own.to text digits) h) in
    omega (arith, one, same)

-- 18 digits are below 10^18
pub short_bound : (text : List ℕ) → IsTrue (are_digits text) → length text ≤ 18 → digits_value 10 text < 10 ^ 18
short_bound text digits h = digits_value_short own text 18 digits h

-- and so is what stands in front of them
pub front_bound : (text : List ℕ) (i : ℕ) → IsTrue (are_digits text) → length text ≤ 18 → digits_value 10 (take i text) < 10 ^ 18
front_bound text i digits h =
    let less = digits_value-take-le 10 text i (omega arith) in
    let bound = short_bound text digits h in
    omega (arith, less, bound)

-- a number is the literal of its value, which is flat
number_posted : (n : ℕ) → n < 2 ^ 63 → posted_value (decimal n) ≡ Some (Int (pos n))
number_posted n h =
    let fine : IsTrue (fits (Int (pos n))) = fits-Int (pos n) (lt-ltb n (2 ^ 63) h) in
    ap posted_value (sym (number-text (pos n))) ∙ ap (option_and_then flat) (printed_value (Int (pos n)) fine)
    ∙ cond-true (fits_flat (Int (pos n))) (Some (Int (pos n))) None (rw (outs-Int (pos n), fits_flat) (lt-ltb n (2 ^ 63) h))

single : (size b : ℕ) → nat_lt 1 size && b == 48 ≡ false → b ≡ 48 → 0 < size → size ≡ 1
single size b h k l = grind (arith, nat_tests)

-- what is short
pub record IsShort (text : List ℕ) : Type 0 where
  pub some : 0 < length text
  pub short : length text ≤ 18
  pub plain : has_leading_zero text ≡ false
  pub digits : IsTrue (are_digits text)

pub short_parts : (text : List ℕ) → is_short text ≡ true → IsShort text
short_parts text e =
    let all = and_parts _ _ e in
    let front = and_parts _ _ all.0 in
    let size = and_parts _ _ front.0 in
    record {
      some = ltb-true 0 (length text) size.0;
      short = leb-true (length text) 18 size.1;
      plain = not-true (has_leading_zero text) front.1;
      digits = all.1;
    }

posted_of_short : (text : List ℕ) → IsShort text → posted_value text ≡ Some (Int (pos (digits_value 10 text)))
posted_of_short text s =
    let n = digits_value 10 text in
    let bound : n < 10 ^ 18 = short_bound text s.digits s.short in
    let same : decimal n ≡ text =
    decimal-digits_value own text s.digits s.some (λ e. single (length text) (get_or text 0 0) s.plain e s.some) (omega (arith, bound)) in
    ap posted_value (sym same) ∙ number_posted n (omega (arith, bound))

-- a short number is the value that is posted
pub short_posted : (text : List ℕ) (v : Value) → short_value text ≡ Some v → posted_value text ≡ Some v
short_posted text v h = by (is_short text) refl h
  where
    by : (b : Bool) → is_short text ≡ b → (if b then Some (Int (pos (digits_value 10 text))) else None) ≡ Some v
        → posted_value text ≡ Some v
    by true e h = posted_of_short text (short_parts text e) ∙ h
    by false e h = cc
