-- Numbers as 64 bits hold them. This host's own rule.
use Rattle.std.specs.Prelude.{ℕ, ◌^◌, ◌==◌, Bool, ◌&&◌, nat_lt, if◌then◌else◌, Option, Some, None, List, length, slice_index}
use Rattle.std.specs.Str.Parse.{digits_value}
use Rattle.sc_types.specs.Delays.{are_digits}

abbrev pub below : ℕ → Option ℕ → Option ℕ
below bound None = None
below bound (Some n) = if nat_lt n bound then Some n else None

-- the number of one digit or more
abbrev pub digits_number : List ℕ → Option ℕ
digits_number text =
    if nat_lt 0 (length text) && are_digits text then below (2 ^ 64) (Some (digits_value 10 text)) else None

abbrev pub has_leading_zero : List ℕ → Bool
has_leading_zero text = nat_lt 1 (length text) && slice_index text 0 == 48

-- the number of digits, of which there may be none
abbrev pub short_number : List ℕ → Option ℕ
short_number text = if are_digits text then Some (digits_value 10 text) else None
