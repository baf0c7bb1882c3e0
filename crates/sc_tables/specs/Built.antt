-- What the tables hold of a chart. Only contracts of private functions cite this, and what the tables keep.
use Rattle.std.specs.Prelude.{◌≡◌, ℕ, ◌+◌, ◌^◌, ◌<◌, ◌≤◌, ◌==◌, Bool, false, true, not, if◌then◌else◌, IfSome, Option, Some, None, List, [], ◌∷◌, ◌++◌, length, map, filter, slice_index_or}
use Rattle.std.specs.List.{range_with_len}
use Rattle.sc_types.specs.Attributes.{words_at}
use Rattle.sc_types.specs.declared.attribute.Attribute.TheVariants as attribute
use Rattle.sc_types.specs.declared.chart.Chart.{Chart}
use Rattle.sc_types.specs.declared.state_kind.StateKind.{StateKind}
use Rattle.sc_types.specs.declared.state_kind.StateKind.TheVariants.{Atomic}
use Rattle.sc_bits.specs.Rows.{RowOf}
use Rattle.sc_law.specs.Nodes.{Path, element, is_same, leads_on, parent}
use Rattle.sc_law.specs.Tree.{numbers_where, state_count, state_paths}
use Rattle.sc_law.specs.Kinds.{kind_of}
use Rattle.sc_law.specs.Configurations.{children, named}
use Rattle.sc_law.specs.Transitions.{transition_paths, transitions_of}
use Rattle.sc_tables.specs.Blocks.{is_child_path, is_history_in}
use Rattle.sc_tables.specs.Nearest.{HasParents, path_at}
use Rattle.sc_tables.specs.Preorder.{IsPreorder, comes_before}
use Rattle.sc_tables.specs.Rows.{below, row_of}
use Rattle.sc_tables.specs.declared.states.States.{States}
use Rattle.sc_tables.specs.declared.transitions.Transitions.{Transitions}

-- states

pub record HasKinds (c : Chart) (kinds : List StateKind) : Type 0 where
  pub size : length kinds ≡ state_count c
  pub each : (s : ℕ) → s < state_count c → Some (slice_index_or kinds s Atomic) ≡ kind_of c s

abbrev pub below_of : List Path → ℕ → RowOf
below_of paths s = record { width = length paths; members = numbers_where (leads_on (path_at paths s)) 0 paths }

abbrev pub children_of : List StateKind → List Path → ℕ → RowOf
children_of kinds paths s = record {
  width = length paths;
  members =
      filter (λ kid. not (is_history_in kinds kid)) (numbers_where (is_child_path (path_at paths s)) 0 paths);
}

pub record AreStates (c : Chart) (t : States) : Type 0 where
  pub paths : t.paths ≡ state_paths c
  pub order : IsPreorder t.paths
  pub small : length t.paths < 2 ^ 32
  pub parents : HasParents t.paths t.parents
  pub all_parents : length t.parents ≡ length t.paths
  pub kinds : HasKinds c t.kinds
  pub below : t.below ≡ map (λ s. row_of c (below c s)) (range_with_len 0 (state_count c))
  pub children : t.children ≡ map (λ s. row_of c (children c s)) (range_with_len 0 (state_count c + 1))

-- transitions

abbrev pub is_number : Option ℕ → ℕ → Bool
is_number None s = false
is_number (Some k) s = k == s

abbrev pub IsWithin : ℕ → Option ℕ → Type 0
IsWithin count o = IfSome o (λ s. s < count)

-- the state that a transition of this path stands in
pub record IsSource (paths : List Path) (path : Path) (o : Option ℕ) : Type 0 where
  pub within : IsWithin (length paths) o
  pub same : (s : ℕ) → s < length paths → is_same (parent path) (path_at paths s) ≡ is_number o s

abbrev pub AreSources : List Path → List Path → List (Option ℕ) → Type 0
AreSources paths [] [] = Unit {0}
AreSources paths (t ∷ ts) (o ∷ os) = IsSource paths t o × AreSources paths ts os
AreSources paths ts os = ⊥

-- a path that is not the root's comes behind the first of these in document order, and before all others
pub record StandsBehind (paths : List Path) (count : ℕ) (path : Path) : Type 0 where
  pub order : IsPreorder paths
  pub within : count ≤ length paths
  pub earlier : (k : ℕ) → k < count → comes_before (path_at paths k) path ≡ true
  pub later : (k : ℕ) → count ≤ k → k < length paths → comes_before path (path_at paths k) ≡ true
  pub some : 0 < length path

-- the same of a path that is a transition's
pub record IsPlacedIf (is_one : Bool) (paths : List Path) (count : ℕ) (path : Path) : Type 0 where
  pub behind : is_one ≡ true → StandsBehind paths count path

-- the source of a path that is a transition's stands behind the others
pub record AddsSource (paths : List Path) (is_one : Bool) (path : Path) (old new : List (Option ℕ)) : Type 0 where
  pub follows : (ts : List Path) → AreSources paths ts old
      → AreSources paths (ts ++ (if is_one then path ∷ [] else [])) new

-- the places, from one on, at which this number stands
abbrev pub places_of : ℕ → ℕ → List (Option ℕ) → List ℕ
places_of s place [] = []
places_of s place (o ∷ os) =
    if is_number o s then place ∷ places_of s (place + 1) os else places_of s (place + 1) os

pub record HasOwn (sources : List (Option ℕ)) (count : ℕ) (lists : List (List ℕ)) : Type 0 where
  pub size : length lists ≡ count
  pub each : (s : ℕ) → s < count → slice_index_or lists s [] ≡ places_of s 0 sources

-- a number stands at the end of the list at one place, where a place is given
pub record IsAddedTo (old : List (List ℕ)) (place : Option ℕ) (number : ℕ) (new : List (List ℕ)) : Type 0 where
  pub size : length new ≡ length old
  pub each : (s : ℕ) → s < length old
      → slice_index_or new s [] ≡ slice_index_or old s [] ++ (if is_number place s then number ∷ [] else [])

pub record AreTransitions (c : Chart) (t : Transitions) : Type 0 where
  pub paths : t.paths ≡ transition_paths c
  pub sources : AreSources (state_paths c) (transition_paths c) t.sources
  pub targets : t.targets ≡ map (λ path. named c (words_at attribute.Target (element c path))) (transition_paths c)
  pub own_size : length t.of_states ≡ state_count c
  pub own : (s : ℕ) → s < state_count c → slice_index_or t.of_states s [] ≡ transitions_of c s
