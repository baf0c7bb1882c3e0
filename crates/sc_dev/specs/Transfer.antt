-- What a whole transfer does to what a source has left and a sink has taken, where they are told.
-- This host's own rule.
use Rattle.std.specs.Prelude.{ℕ, ◌<◌, ◌≤◌, Option, List, length, take}
use Rattle.std.specs.Io.KnownBytes.{Appends, Consumes}

-- the first bytes were consumed, at most so many
pub record ConsumesUpTo (most : ℕ) (old new : Option (List ℕ)) : Type 0 where
  pub bytes : List ℕ
  pub few : length bytes ≤ most
  pub consumed : Consumes old new bytes

-- the first part of the text was taken, but not all of it
pub record AppendsPart (old new : Option (List ℕ)) (text : List ℕ) : Type 0 where
  pub count : ℕ
  pub part : count < length text
  pub taken : Appends old new (take count text)
