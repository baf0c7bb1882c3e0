-- The states and histories of a chart (SCXML 3.1 to 3.11), named by their places in document order, from 0 (this host's
-- own rule). What stands where is read off the paths. The root is above every state; a number past the states names it.
use Rattle.std.specs.Prelude.{ℕ, ◌+◌, Bool, true, false, not, if◌then◌else◌, Option, unwrap_or, List, [], ◌∷◌, length, reverse, filter, position, slice_get}
use Rattle.std.specs.List.{list_any}
use Rattle.std.specs.Option.{option_map_or}
use Rattle.sc_types.specs.Elements.{is_state, is_numbered}
use Rattle.sc_types.specs.declared.attribute.Attribute.TheVariants as attribute
use Rattle.sc_types.specs.declared.chart.Chart.{Chart}
use Rattle.sc_types.specs.declared.chart.Node.{Node}
use Rattle.sc_types.specs.declared.chart.Tag.{Tag}
use Rattle.sc_types.specs.declared.chart.Tag.TheVariants.{State, Final}
use Rattle.sc_types.specs.Attributes.{text_at, is_text_at}
use Rattle.sc_law.specs.Nodes.{Path, elements, element, kids, node_at, leads_on, tag_of}

-- the paths of the states and histories, in document order
abbrev pub state_paths : Chart → List Path
state_paths c = filter (λ path. is_numbered (tag_of (element c path))) (elements c)

abbrev pub state_count : Chart → ℕ
state_count c = length (state_paths c)

-- the number that names the root
abbrev pub root : Chart → ℕ
root c = state_count c

abbrev pub path_of : Chart → ℕ → Path
path_of c s = unwrap_or (slice_get (state_paths c) s) []

-- the element of a state, or of the root
abbrev pub node_of : Chart → ℕ → Option Node
node_of c s = node_at c.root (path_of c s)

abbrev pub state_element : Chart → ℕ → Node
state_element c s = element c (path_of c s)

-- the child elements of a state
abbrev pub kids_of : Chart → ℕ → List Node
kids_of c s = option_map_or kids (node_of c s) []

-- a state is a proper descendant of another, or of the root
abbrev pub is_below : Chart → ℕ → ℕ → Bool
is_below c s above = leads_on (path_of c above) (path_of c s)

-- the numbers, from one on, of the paths that pass a test
abbrev pub numbers_where : (Path → Bool) → ℕ → List Path → List ℕ
numbers_where test s [] = []
numbers_where test s (path ∷ paths) =
    if test path then s ∷ numbers_where test (s + 1) paths else numbers_where test (s + 1) paths

-- the proper ancestors of a state below the root, from the nearest
abbrev pub ancestors : Chart → ℕ → List ℕ
ancestors c s = reverse (numbers_where (λ path. leads_on path (path_of c s)) 0 (state_paths c))

abbrev pub has_states : Node → Bool
has_states n = list_any (λ kid. is_state (tag_of kid)) (kids n)

-- a state without child states is atomic, and so is a final
abbrev pub is_atomic_element : Node → Tag → Bool
is_atomic_element n State = not (has_states n)
is_atomic_element n Final = true
is_atomic_element n tag = false

abbrev pub id_of : Node → Option (List ℕ)
id_of n = text_at attribute.Id n

-- the state of that id
abbrev pub state_named : Chart → List ℕ → Option ℕ
state_named c id = position (λ path. is_text_at attribute.Id id (element c path)) (state_paths c)
