-- What stands below a path: in a list of paths in document order these come next to one another. Only contracts of
-- private functions cite this.
use Rattle.std.specs.Prelude.{◌≡◌, ℕ, ◌<◌, ◌≤◌, Bool, false, not, ◌&&◌, List, length, slice_index_or}
use Rattle.sc_types.specs.declared.state_kind.StateKind.{StateKind}
use Rattle.sc_types.specs.declared.state_kind.StateKind.TheVariants.{Atomic}
use Rattle.sc_law.specs.Nodes.{Path, leads_on, is_root, is_same, parent}
use Rattle.sc_law.specs.Kinds.{is_history_kind}
use Rattle.sc_tables.specs.Nearest.{path_at}

-- what leads on from this path stands from one number on, without a gap
pub record IsBlock (paths : List Path) (from : ℕ) (path : Path) : Type 0 where
  pub within : from ≤ length paths
  pub before : (k : ℕ) → k < from → leads_on path (path_at paths k) ≡ false
  pub behind : (j k : ℕ) → from ≤ j → j < k → k < length paths → leads_on path (path_at paths j) ≡ false
      → leads_on path (path_at paths k) ≡ false

-- none of these is the root's path
abbrev pub AreBelowRoot : List Path → Type 0
AreBelowRoot paths = (k : ℕ) → k < length paths → 0 < length (path_at paths k)

abbrev pub is_child_path : Path → Path → Bool
is_child_path above path = not (is_root path) && is_same (parent path) above

abbrev pub is_history_in : List StateKind → ℕ → Bool
is_history_in kinds s = is_history_kind (slice_index_or kinds s Atomic)
