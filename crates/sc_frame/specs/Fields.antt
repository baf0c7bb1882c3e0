-- Fields of the journal and of commands. This host's own rule: numbers are big-endian, signed ones in two's
-- complement, and a text follows its length.
use Rattle.std.specs.Prelude.{◌≡◌, ℕ, ◌+◌, ℤ, nat_le, Option, None, Some, option_map, option_and_then, if◌then◌else◌, List, ◌++◌, length, take, drop}
use Rattle.std.specs.Int.{w64, cast_signed, cast_unsigned}
use Rattle.byteorder.specs.Endian.{big_bytes, big_number}

-- a number as so many bytes, the highest first
unfoldable pub number_field : ℕ → ℕ → List ℕ
number_field size n = big_bytes size n

-- the number in the first so many bytes, the highest first
unfoldable pub field_number : ℕ → List ℕ → ℕ
field_number size bytes = big_number size bytes

-- a signed number as its 8 bytes
abbrev pub int_field : ℤ → List ℕ
int_field z = number_field 8 (cast_unsigned w64 z)

-- a text after its length
abbrev pub bytes_field : List ℕ → List ℕ
bytes_field bytes = number_field 4 (length bytes) ++ bytes

-- the bytes stand at this place of the piece
pub record StandsAt (field piece : List ℕ) (at : ℕ) : Type 0 where
  pub before : List ℕ
  pub after : List ℕ
  pub whole : piece ≡ before ++ (field ++ after)
  pub place : length before ≡ at

-- the number in so many bytes at a place, and the place after it; none where the piece is too short
abbrev pub number_at : ℕ → List ℕ → ℕ → Option (ℕ × ℕ)
number_at size piece at =
    if nat_le (at + size) (length piece) then Some (field_number size (drop at piece), at + size) else None

-- the signed number in the 8 bytes at a place, and the place after it
abbrev pub int_at : List ℕ → ℕ → Option (ℤ × ℕ)
int_at piece at = option_map (λ f. (cast_signed w64 f.0, f.1)) (number_at 8 piece at)

-- so many bytes at a place
abbrev pub part_at : List ℕ → ℕ × ℕ → Option (List ℕ × ℕ)
part_at piece (size, at) =
    if nat_le (at + size) (length piece) then Some (take size (drop at piece), at + size) else None

-- the text whose length and bytes stand at a place, and the place after it
abbrev pub bytes_at : List ℕ → ℕ → Option (List ℕ × ℕ)
bytes_at piece at = option_and_then (part_at piece) (number_at 4 piece at)
