-- How parents are found: the parent of a state is the last one before it whose path leads on to its path. Only
-- contracts of private functions cite this.
use Rattle.std.specs.Prelude.{◌≡◌, ℕ, ◌+◌, ◌<◌, ◌≤◌, true, false, Option, Some, None, List, [], length, slice_index_or}
use Rattle.sc_law.specs.Nodes.{Path, leads_on}
use Rattle.sc_tables.specs.Preorder.{IsPreorder, comes_before}

abbrev pub path_at : List Path → ℕ → Path
path_at paths k = slice_index_or paths k []

-- the last number below the count, if there is one
abbrev pub IsLast : ℕ → Option ℕ → Type 0
IsLast count None = count ≡ 0
IsLast count (Some k) = k + 1 ≡ count

-- of the paths from one number on up to another, none leads on to this one
abbrev pub NoneLeads : List Path → ℕ → ℕ → Path → Type 0
NoneLeads paths from to path = (k : ℕ) → from ≤ k → k < to → leads_on (path_at paths k) path ≡ false

-- the last of the first paths that leads on to this one
abbrev pub IsNearest : List Path → ℕ → Path → Option ℕ → Type 0
IsNearest paths count path None = NoneLeads paths 0 count path
IsNearest paths count path (Some s) =
    (s < count) × (leads_on (path_at paths s) path ≡ true) × NoneLeads paths (s + 1) count path

-- the parents of the first paths
pub record HasParents (paths : List Path) (parents : List (Option ℕ)) : Type 0 where
  pub size : length parents ≤ length paths
  pub each : (s : ℕ) → s < length parents → IsNearest paths s (path_at paths s) (slice_index_or parents s None)

-- the first of these paths come before this one in document order
pub record IsPlaced (paths : List Path) (count : ℕ) (path : Path) : Type 0 where
  pub order : IsPreorder paths
  pub within : count ≤ length paths
  pub earlier : (k : ℕ) → k < count → comes_before (path_at paths k) path ≡ true
