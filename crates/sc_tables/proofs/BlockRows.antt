-- The rows of what stands below a path.
use Rattle.std.proofs.Common.{◌≡◌, ℕ, ◌+◌, ◌<◌, ◌≤◌, ◌&&◌, inl, inr, not, Bool, true, false, cond, filter, List, [], length, length-take, take, get_or, arith, ap, ap₂, sym, ◌∙◌}
use Rattle.std.proofs.lemmas.Bool.{cases_order}
use Rattle.std.proofs.lemmas.List.{get_or-take}
use Rattle.sc_base.specs.Ascending.{with_number}
use Rattle.sc_bits.specs.Rows.{RowOf}
use Rattle.sc_law.specs.Nodes.{Path, leads_on}
use Rattle.sc_law.specs.Tree.{numbers_where}
use Rattle.sc_types.specs.declared.state_kind.StateKind.{StateKind}
use Rattle.sc_tables.specs.Blocks.{IsBlock, is_child_path, is_history_in}
use Rattle.sc_tables.specs.Built.{below_of, children_of}
use Rattle.sc_tables.specs.Nearest.{path_at}
use Rattle.sc_tables.proofs.Blocks.{child-leads}
use Rattle.sc_tables.proofs.Numbers.{numbers-none, numbers-until, kept-add, kept-skip}

pub row-ends : (r : RowOf) (width : ℕ) (members : List ℕ) → r.width ≡ width → r.members ≡ members → r ≡ record { width = width; members = members }
row-ends r width members e f = ap₂ (λ (w : ℕ) (ms : List ℕ). record { width = w; members = ms }) e f

first-none : (test : Path → Bool) (paths : List Path) (from : ℕ) → from ≤ length paths
    → ((k : ℕ) → k < from → test (path_at paths k) ≡ false) → numbers_where test 0 (take from paths) ≡ []
first-none test paths from within h = numbers-none test 0 (take from paths) (record { each = by }) where
  long : length (take from paths) ≡ from
  long = simp length-take (omega arith)

  by : (k : ℕ) → k < length (take from paths) → test (get_or (take from paths) k []) ≡ false
  by k u = let short : k < from = omega (arith, long) in rw (get_or-take from paths k [] short) (h k short)

-- before the block nothing is below the path
pub none-yet : (paths : List Path) (from : ℕ) (path : Path) → IsBlock paths from path → numbers_where (leads_on path) 0 (take from paths) ≡ []
none-yet paths from path block = first-none (leads_on path) paths from block.within block.before

-- behind the block nothing is
later-fails : (paths : List Path) (from s : ℕ) (path : Path) → IsBlock paths from path → from ≤ s → leads_on path (path_at paths s) ≡ false
    → (k : ℕ) → s ≤ k → k < length paths → leads_on path (path_at paths k) ≡ false
later-fails paths from s path block a fails k b u = elim (cases_order s k) [
  | inl e ↦ ap (λ n. leads_on path (path_at paths n)) (sym e) ∙ fails
  | inr o ↦ elim o [ inl below ↦ block.behind s k a below u fails | inr above ↦ absurd (omega arith) ]
]

pub all-found : (paths : List Path) (from s : ℕ) (path : Path) → IsBlock paths from path → from ≤ s → s ≤ length paths → leads_on path (path_at paths s) ≡ false
    → numbers_where (leads_on path) 0 paths ≡ numbers_where (leads_on path) 0 (take s paths)
all-found paths from s path block a b fails = numbers-until (leads_on path) paths s b (later-fails paths from s path block a fails)

-- the same of children
pub no-child-yet : (keep : ℕ → Bool) (paths : List Path) (from : ℕ) (path : Path) → IsBlock paths from path
    → filter keep (numbers_where (is_child_path path) 0 (take from paths)) ≡ []
no-child-yet keep paths from path block =
    ap (filter keep) (first-none (is_child_path path) paths from block.within (λ k u. child-leads path (path_at paths k) (block.before k u)))

pub all-children-found : (keep : ℕ → Bool) (paths : List Path) (from s : ℕ) (path : Path) → IsBlock paths from path → from ≤ s → s ≤ length paths
    → leads_on path (path_at paths s) ≡ false
    → filter keep (numbers_where (is_child_path path) 0 paths) ≡ filter keep (numbers_where (is_child_path path) 0 (take s paths))
all-children-found keep paths from s path block a b fails = ap (filter keep) (numbers-until (is_child_path path) paths s b
    (λ k c u. child-leads path (path_at paths k) (later-fails paths from s path block a fails k c u)))

-- one state more, which is a child or is none
pub child-more : (keep : ℕ → Bool) (test : Path → Bool) (paths : List Path) (s : ℕ) (v w b : Bool) → s < length paths
    → test (get_or paths s []) ≡ v → keep s ≡ w → b ≡ (v && w)
    → cond b (with_number s (filter keep (numbers_where test 0 (take s paths)))) (filter keep (numbers_where test 0 (take s paths)))
    ≡ filter keep (numbers_where test 0 (take (s + 1) paths))
child-more keep test paths s true true b l p k e = rw e (kept-add keep test paths s l p k)
child-more keep test paths s true false b l p k e = rw e (kept-skip keep test paths s l (ap₂ (λ v w. v && w) p k))
child-more keep test paths s false w b l p k e = rw e (kept-skip keep test paths s l (ap₂ (λ v w. v && w) p k))

-- the row of the path at a number

pub below-row-same : (paths : List Path) (s count : ℕ) (path : Path) → count ≡ length paths → path ≡ path_at paths s
    → record { width = count; members = numbers_where (leads_on path) 0 paths } ≡ below_of paths s
below-row-same paths s count path e h = ap₂ (λ (n : ℕ) (p : Path). record { width = n; members = numbers_where (leads_on p) 0 paths }) e h

pub child-row-same : (kinds : List StateKind) (paths : List Path) (s count : ℕ) (path : Path) → count ≡ length paths → path ≡ path_at paths s
    → record { width = count; members = filter (λ kid. not (is_history_in kinds kid)) (numbers_where (is_child_path path) 0 paths) } ≡ children_of kinds paths s
child-row-same kinds paths s count path e h =
    ap₂ (λ (n : ℕ) (p : Path). record { width = n; members = filter (λ kid. not (is_history_in kinds kid)) (numbers_where (is_child_path p) 0 paths) }) e h
