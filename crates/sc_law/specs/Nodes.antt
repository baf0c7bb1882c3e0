-- The elements of a chart in document order, and their tags. SCXML 3.1 to 6.5; that an element is named by its path,
-- the places among child elements that lead to it from the root, is this host's own rule.
use Rattle.std.specs.Prelude.{ℕ, ◌+◌, ◌-◌, ◌==◌, Bool, ◌&&◌, nat_eq, nat_lt, Option, Some, option_and_then, unwrap_or, List, [], ◌∷◌, ◌++◌, length, take, slice_get}
use Rattle.std.specs.List.{starts_with}
use Rattle.std.specs.Str.{bytes_eq}
use Rattle.sc_types.specs.declared.chart.Chart.{Chart}
use Rattle.sc_types.specs.declared.chart.Node.{Node, Node', Row_of-Node, end_of-Node, more_of-Node, out-Node}
use Rattle.sc_types.specs.contracts.chart.TagPartialEq.TheImpl as tag_eq
use Rattle.sc_types.specs.declared.chart.Tag.{Tag}

-- paths

abbrev pub Path : Type 0
Path = List ℕ

unfoldable mutual
  -- the path of an element, and those of the elements below it
  pub elements_from : Node → Path → List Path
  elements_from (Node' tag members shape row) path = path ∷ elements_of_row row path 0

  -- those of child elements, the first of which stands at this place
  pub elements_of_row : {m : _} → Row_of-Node m → Path → ℕ → List Path
  elements_of_row end_of-Node path place = []
  elements_of_row (more_of-Node n rest) path place =
      elements_from n (path ++ place ∷ []) ++ elements_of_row rest path (place + 1)

-- the paths of all elements, in document order
abbrev pub elements : Chart → List Path
elements c = elements_from c.root []

abbrev pub kids : Node → List Node
kids n = (out-Node n).kids

abbrev pub node_at : Node → Path → Option Node
node_at n [] = Some n
node_at n (place ∷ path) = option_and_then (λ kid. node_at kid path) (slice_get (kids n) place)

-- the element at a path; the root where there is none
abbrev pub element : Chart → Path → Node
element c path = unwrap_or (node_at c.root path) c.root

abbrev pub is_root : Path → Bool
is_root path = length path == 0

abbrev pub parent : Path → Path
parent path = take (length path - 1) path

-- a path leads on from another
abbrev pub leads_on : Path → Path → Bool
leads_on above path = nat_lt (length above) (length path) && starts_with nat_eq path above

abbrev pub is_same : Path → Path → Bool
is_same = bytes_eq

-- tags

abbrev pub tag_of : Node → Tag
tag_of n = (out-Node n).tag

abbrev pub is_tag : Tag → Tag → Bool
is_tag = (tag_eq.ghosts).eq
