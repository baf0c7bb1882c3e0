-- The paths of a tree, by one level.
use Rattle.std.proofs.Common.{◌≡◌, ℕ, ◌+◌, List, [], ◌∷◌, ◌++◌, map, ap, rules, refl}
use Rattle.sc_types.specs.declared.chart.Node.{Node, Node', Row_of-Node, end_of-Node, more_of-Node, items-the_row-Node, the_lemmas as node_lemmas}
use Rattle.sc_law.specs.Nodes.{Path, kids, elements_from, elements_of_row}

-- what child elements give, each at its own path, the first of which stands at this place
abbrev pub paths_of_kids : Path → ℕ → List (Path → List Path) → List Path
paths_of_kids path place [] = []
paths_of_kids path place (kid ∷ kids) = kid (path ++ place ∷ []) ++ paths_of_kids path (place + 1) kids

row_paths : {m : _} (row : Row_of-Node m) (path : Path) (place : ℕ)
    → elements_of_row row path place ≡ paths_of_kids path place (map elements_from (items-the_row-Node m row))
unfolding elements_from
row_paths end_of-Node path place = refl
row_paths (more_of-Node n rest) path place =
    ap (λ (ps : List Path). elements_from n (path ++ place ∷ []) ++ ps) (row_paths rest path (place + 1))

-- an element's own path, and then what its child elements give
pub elements_from_node : (n : Node) (path : Path)
    → elements_from n path ≡ path ∷ paths_of_kids path 0 (map elements_from (kids n))
unfolding elements_from
elements_from_node (Node' tag members shape row) path = search (rules, node_lemmas, row_paths)
