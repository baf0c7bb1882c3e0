-- When a microstep exits and enters nothing, and histories are as an exit would leave them. Only contracts of private
-- functions cite this.
use Rattle.std.specs.Prelude.{ℕ, ◌+◌, ◌==◌, ◌&&◌, Bool, true, nat_le, nat_lt, List, [], ◌∷◌, length}
use Rattle.std.specs.List.{list_all}
use Rattle.sc_types.specs.declared.chart.Chart.{Chart}
use Rattle.sc_law.specs.Kinds.{is_history}
use Rattle.sc_law.specs.Sets.{Histories}
use Rattle.sc_law.specs.Transitions.{targets}
use Rattle.sc_law.specs.Tree.{state_count}

abbrev pub are_targetless : Chart → List ℕ → Bool
are_targetless c ts = list_all (λ t. length (targets c t) == 0) ts

-- the number of a history
abbrev pub is_history_number : Chart → ℕ → Bool
is_history_number c s = nat_lt s (state_count c) && is_history c s

-- histories of the chart, from a number on, each above the one before it
abbrev pub are_in_order : Chart → ℕ → Histories → Bool
are_in_order c from [] = true
are_in_order c from (kept ∷ h) = nat_le from kept.0 && is_history_number c kept.0 && are_in_order c (kept.0 + 1) h
