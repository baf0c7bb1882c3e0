-- What the histories of exited states record (SCXML 3.10; Appendix D, exitStates).
use Rattle.std.specs.Prelude.{List, None, Option, Some, filter, filter_map, find, if◌then◌else◌, not, ℕ, ◌&&◌, ◌==◌}
use Rattle.std.specs.List.{range_with_len}
use Rattle.sc_base.specs.Ascending.{contains}
use Rattle.sc_types.specs.declared.chart.Chart.{Chart}
use Rattle.sc_law.specs.Tree.{is_below, state_count}
use Rattle.sc_law.specs.Configurations.{parent_of}
use Rattle.sc_law.specs.Sets.{Histories}
use Rattle.sc_law.specs.Kinds.{is_atomic, is_history, is_deep}

-- 3.10: of the active states a deep history records the atomic ones below its parent, a shallow one its parent's
-- children
abbrev pub records : Chart → List ℕ → ℕ → List ℕ
records c configuration s =
    if is_deep c s then filter (λ a. is_below c a (parent_of c s) && is_atomic c a) configuration
    else filter (λ a. parent_of c a == parent_of c s) configuration

-- what a history keeps where these states are exited: a new record where its parent is among them, also an empty one
abbrev pub kept_by : Chart → List ℕ → List ℕ → Histories → ℕ → Option (ℕ × List ℕ)
kept_by c configuration gone h s =
    if not (is_history c s) then None
    else if contains gone (parent_of c s) then Some (s, records c configuration s)
    else find (λ (kept : ℕ × List ℕ). kept.0 == s) h

-- Appendix D, exitStates: all histories of all states to be exited record before the first of these is exited; the
-- records stand in document order of the histories (this host's own rule)
unfoldable pub record_all : Chart → List ℕ → List ℕ → Histories → Histories
record_all c configuration gone h = filter_map (kept_by c configuration gone h) (range_with_len 0 (state_count c))
