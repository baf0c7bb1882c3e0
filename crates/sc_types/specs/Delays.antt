-- Delays, in milliseconds. SCXML 6.2 has them as times of CSS2; here a fraction stands before `s` alone and has at
-- most three digits (this host's own rule).
use Rattle.std.specs.Prelude.{ℕ, ◌+◌, ◌-◌, ◌*◌, ◌^◌, ◌==◌, Bool, ◌&&◌, nat_eq, nat_le, nat_lt, if◌then◌else◌, Option, Some, None, List, [], ◌∷◌, length, take, drop, codes}
use Rattle.std.specs.List.{list_all, ends_with, prefix_len}
use Rattle.std.specs.Str.Parse.{digits_value}
use Rattle.sc_base.specs.Text.{is_digit}
use Rattle.sc_types.specs.declared.limits.TheConstants.{DELAY_LIMIT}

abbrev pub are_digits : List ℕ → Bool
are_digits text = list_all is_digit text

-- at most 10^12 milliseconds
abbrev pub limited : ℕ → Option ℕ
limited delay = if nat_le delay DELAY_LIMIT then Some delay else None

abbrev pub milliseconds : List ℕ → Option ℕ
milliseconds text =
    if nat_lt 0 (length text) && nat_le (length text) 13 && are_digits text then limited (digits_value 10 text)
    else None

-- digits without a fraction
abbrev pub whole_seconds : List ℕ → Option ℕ
whole_seconds whole =
    if nat_lt 0 (length whole) && nat_le (length whole) 13 then limited (digits_value 10 whole * 1000) else None

-- the digits before the point may be missing; there are one to three behind it
abbrev pub fraction_seconds : List ℕ → List ℕ → Option ℕ
fraction_seconds whole fraction =
    if nat_le (length whole) 13 && nat_lt 0 (length fraction) && nat_le (length fraction) 3 && are_digits fraction
    then limited (digits_value 10 whole * 1000 + digits_value 10 fraction * 10 ^ (3 - length fraction))
    else None

-- digits, and what stands behind them
abbrev pub seconds_of : List ℕ → List ℕ → Option ℕ
seconds_of whole [] = whole_seconds whole
seconds_of whole (b ∷ fraction) = if b == 46 then fraction_seconds whole fraction else None

abbrev pub seconds : List ℕ → Option ℕ
seconds text = seconds_of (take (prefix_len is_digit text) text) (drop (prefix_len is_digit text) text)

-- the milliseconds that a text of a delay writes: `10ms`, `1.5s`, `.5s`
unfoldable pub delay_of : List ℕ → Option ℕ
delay_of text =
    if ends_with nat_eq text (codes "ms") then milliseconds (take (length text - 2) text)
    else if ends_with nat_eq text (codes "s") then seconds (take (length text - 1) text)
    else None
