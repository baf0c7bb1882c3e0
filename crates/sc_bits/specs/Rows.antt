-- Rows: ascending lists of numbers below a width. This host's own rule; SCXML Appendix D speaks of sets of
-- states, and orders them in document order, which is that of their numbers.
use Rattle.std.specs.Prelude.{ℕ, ◌+◌, ◌<◌, ◌≤◌, List, [], ◌∷◌}

-- a row as contracts see it
pub record RowOf : Type 0 where
  pub width : ℕ
  pub members : List ℕ

-- the numbers are ascending, at least `from` and below the width
abbrev pub IsAscending : ℕ → ℕ → List ℕ → Type 0
IsAscending from width [] = Unit {0}
IsAscending from width (m ∷ ms) = (from ≤ m) × (m < width) × IsAscending (m + 1) width ms
