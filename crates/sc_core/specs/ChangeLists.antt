-- The changes of a command as they are listed. This host's own rule.
use Rattle.std.specs.Prelude.{ℕ, Bool, true, false, ◌++◌, List, [], ◌∷◌, Option, Some, None}
use Rattle.sc_core.specs.declared.change.Change.{Change}
use Rattle.sc_core.specs.declared.change.Change.TheVariants.{Count, TakeFront}

abbrev pub first_of : {P : Type 0} → Option (Change P) → List (Change P)
first_of None = []
first_of (Some change) = change ∷ []

-- the front of the external queue of the session at a place is taken
abbrev pub taken_of : {P : Type 0} → Option ℕ → List (Change P)
taken_of None = []
taken_of (Some place) = TakeFront place ∷ []

abbrev pub counted_of : {P : Type 0} → Bool → List (Change P)
counted_of false = []
counted_of true = Count ∷ []

abbrev pub listed : {P : Type 0} → Option (Change P) → Option ℕ → List (Change P) → Bool → List (Change P)
listed first taken more counted = first_of first ++ (taken_of taken ++ (more ++ counted_of counted))
