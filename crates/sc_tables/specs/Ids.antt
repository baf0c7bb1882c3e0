-- Which number a table has for an id. Only contracts of private functions cite this.
use Rattle.std.specs.Prelude.{ℕ, ◌≡◌, if◌then◌else◌, Option, Some, None, List}
use Rattle.std.specs.Option.{option_or}
use Rattle.std.specs.BTreeMap.{get_by}
use Rattle.std.specs.Str.{bytes_eq}
use Rattle.std.specs.Cmp.Lexicographic.{slice_cmp}
use Rattle.std.specs.Ordering.{nat_cmp}
use Rattle.sc_types.specs.declared.attribute.Attribute.TheVariants as attribute
use Rattle.sc_types.specs.declared.chart.Chart.{Chart}
use Rattle.sc_types.specs.declared.chart.Node.{Node}
use Rattle.sc_types.specs.Attributes.{is_text_at}
use Rattle.std.specs.List.{position_from}
use Rattle.sc_law.specs.Nodes.{Path, element}
use Rattle.sc_law.specs.Tree.{state_named}
use Rattle.sc_tables.specs.declared.ids.Numbers.{Numbers}

abbrev pub number_of : Numbers → List ℕ → Option ℕ
number_of f id = get_by (λ key. slice_cmp nat_cmp id key.items) f.by_id

-- the table has the first state of each id
abbrev pub HasNumbers : Numbers → Chart → Type 0
HasNumbers f c = (id : List ℕ) → number_of f id ≡ state_named c id

-- an id that had no number has this one
pub record IsPut (old : Numbers) (id : List ℕ) (number : ℕ) (new : Numbers) : Type 0 where
  pub finds : (other : List ℕ) → number_of new other
      ≡ option_or (number_of old other) (if bytes_eq id other then Some number else None)

-- the same with the id of a state
pub record IsAdded (old : Numbers) (n : Node) (number : ℕ) (new : Numbers) : Type 0 where
  pub finds : (id : List ℕ) → number_of new id
      ≡ option_or (number_of old id) (if is_text_at attribute.Id id n then Some number else None)

-- the table has the first state of each id, among those of these paths
pub record AreNumbers (f : Numbers) (c : Chart) (paths : List Path) : Type 0 where
  pub finds : (id : List ℕ) → number_of f id
      ≡ position_from (λ path. is_text_at attribute.Id id (element c path)) 0 paths
