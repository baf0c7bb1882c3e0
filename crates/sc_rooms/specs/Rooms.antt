-- Containers with room, as contracts see them. This host's own rule; SCXML leaves memory to the host.
use Rattle.std.specs.Prelude.{◌≡◌, ℕ, ◌+◌, ◌≤◌, ◌<◌, Option, position, slice_index_or, length, List, [], ◌∷◌}
use Rattle.std.specs.Str.{bytes_eq}

-- a list of items, and for how many more there is room
pub record RoomyOf (T : Type 0) : Type 0 where
  pub items : List T
  pub spare : ℕ

-- the names, the item of each at the name's place, and for how many more there is room
pub record NamedOf (T : Type 0) : Type 0 where
  pub names : List (List ℕ)
  pub items : List T
  pub spare : ℕ

-- where a name stands
abbrev pub place_of : List ℕ → List (List ℕ) → Option ℕ
place_of name names = position (λ other. bytes_eq other name) names

-- no two names are the same
abbrev pub AreDistinct : List (List ℕ) → Type 0
AreDistinct names = (i j : ℕ) → i < length names → j < length names
    → slice_index_or names i [] ≡ slice_index_or names j [] → i ≡ j

-- a set of places in ascending order, and for how many more there is room
pub record PlacesOf : Type 0 where
  pub places : List ℕ
  pub spare : ℕ

-- the places ascend, and none is below `from`
abbrev pub IsAscending : ℕ → List ℕ → Type 0
IsAscending from [] = Unit {0}
IsAscending from (place ∷ places) = (from ≤ place) × IsAscending (place + 1) places
