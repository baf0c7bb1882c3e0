-- Numbers as the words of a command line write them. This host's own rule.
use Rattle.std.specs.Prelude.{ℕ, ◌^◌, ◌&&◌, nat_le, nat_lt, if◌then◌else◌, Option, Some, None, option_and_then, List, length}
use Rattle.std.specs.Str.{all_ascii_digits}
use Rattle.std.specs.Str.Parse.{digits_value, without_leading_plus}

-- the number below `bound` that digits write, of which there is one at least
abbrev pub digits_below : ℕ → List ℕ → Option ℕ
digits_below bound digits =
    if nat_lt 0 (length digits) && all_ascii_digits digits && nat_lt (digits_value 10 digits) bound
    then Some (digits_value 10 digits) else None

-- as Rust's `u64::from_str` reads it: a plus may stand in front, and zeros may lead
abbrev pub number_of : List ℕ → Option ℕ
number_of text = digits_below (2 ^ 64) (without_leading_plus text)

abbrev pub within : ℕ → ℕ → ℕ → Option ℕ
within least most n = if nat_le least n && nat_le n most then Some n else None

-- a number from `least` to `most`
abbrev pub limited : ℕ → ℕ → List ℕ → Option ℕ
limited least most text = option_and_then (within least most) (number_of text)
