-- Numbers of few digits. Only contracts of private functions and proofs cite this.
use Rattle.std.specs.Prelude.{ℕ, Bool, not, ◌&&◌, nat_lt, nat_le, if◌then◌else◌, Option, Some, None, List, length, pos}
use Rattle.std.specs.Str.Parse.{digits_value}
use Rattle.sc_types.specs.Delays.{are_digits}
use Rattle.sc_types.specs.declared.value.Value.{Value}
use Rattle.sc_types.specs.declared.value.Value.TheVariants.{Int}
use Rattle.sc_expr.specs.Numbers.{has_leading_zero}

-- at most 18 digits, as a number is written
abbrev pub is_short : List ℕ → Bool
is_short text = nat_lt 0 (length text) && nat_le (length text) 18 && not (has_leading_zero text) && are_digits text

abbrev pub short_value : List ℕ → Option Value
short_value text = if is_short text then Some (Int (pos (digits_value 10 text))) else None
