-- Paths in document order. Only contracts of private functions cite this.
use Rattle.std.specs.Prelude.{◌≡◌, ℕ, ◌==◌, Bool, true, false, nat_lt, if◌then◌else◌, List, [], ◌∷◌}
use Rattle.std.specs.List.{AllPairs}

-- in document order a path comes before those that lead on from it, and a child's before those of later children
abbrev pub comes_before : List ℕ → List ℕ → Bool
comes_before [] [] = false
comes_before [] (y ∷ q) = true
comes_before (x ∷ p) [] = false
comes_before (x ∷ p) (y ∷ q) = if x == y then comes_before p q else nat_lt x y

-- these paths stand in document order
pub record IsPreorder (paths : List (List ℕ)) : Type 0 where
  pub pairs : AllPairs (λ p q. comes_before p q ≡ true) paths
