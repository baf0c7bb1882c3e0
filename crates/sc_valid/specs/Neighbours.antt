-- Lists of which each two neighbours stand in a relation. Only contracts of private functions cite this.
use Rattle.std.specs.Prelude.{Bool, true, ◌&&◌, List, [], ◌∷◌}

abbrev pub all_neighbours : {X : Type 0} → (X → X → Bool) → List X → Bool
all_neighbours test [] = true
all_neighbours test (x ∷ []) = true
all_neighbours test (x ∷ y ∷ ys) = test x y && all_neighbours test (y ∷ ys)
