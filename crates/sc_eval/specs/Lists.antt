-- Equality of lists, item by item; for private clauses.
use Rattle.std.specs.Prelude.{Bool, List, [], false, true, ◌&&◌, ◌∷◌}
use Rattle.sc_types.specs.declared.value.Value.{Value}
use Rattle.sc_law.specs.Evaluation.{same_value}

abbrev pub same_lists : List Value → List Value → Bool
same_lists [] [] = true
same_lists [] (w ∷ ws) = false
same_lists (v ∷ vs) [] = false
same_lists (v ∷ vs) (w ∷ ws) = same_value v w && same_lists vs ws
