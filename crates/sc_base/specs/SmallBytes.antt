-- The bytes that a `SmallBytes` holds.
use Rattle.std.specs.Prelude.{ℕ, List, ◌≤◌, ◌<◌, length, take}
use Rattle.sc_base.specs.declared.small_bytes.Held.{Held}
use Rattle.sc_base.specs.declared.small_bytes.Held.TheVariants.{Here, Elsewhere}
use Rattle.sc_base.specs.declared.small_bytes.SmallBytes.TheInside.{Inside}

-- the first ones of the room, or those with a count of owners
abbrev held_bytes : Held → List ℕ
held_bytes (Here len room) = take len room
held_bytes (Elsewhere bytes) = bytes

abbrev pub small_bytes : Inside → List ℕ
small_bytes s = held_bytes s.held

-- up to 22 bytes lie in the room, and more have a count of owners
abbrev IsHeld : Held → Type 0
IsHeld (Here len room) = len ≤ 22
IsHeld (Elsewhere bytes) = 22 < length bytes

abbrev pub IsSmall : Inside → Type 0
IsSmall s = IsHeld s.held
