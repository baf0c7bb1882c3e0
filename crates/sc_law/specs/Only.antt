-- The only element of a list. Only contracts of private functions cite this.
use Rattle.std.specs.Prelude.{Option, Some, None, List, [], ◌∷◌}

abbrev pub only : {A : Type 0} → List A → Option A
only [] = None
only (x ∷ []) = Some x
only (x ∷ y ∷ xs) = None

abbrev pub listed : {A : Type 0} → Option A → List A
listed None = []
listed (Some x) = x ∷ []
