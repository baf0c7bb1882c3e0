-- What microsteps of a legal chart owe to its sets: the configuration after one, and the records of its histories.
use Rattle.std.proofs.Common.{◌≡◌, ℕ, ◌&&◌, ◌||◌, nat_lt, not, All, true, false, IsTrue, List, map}
use Rattle.std.specs.List.{list_all}
use Rattle.sc_base.specs.Ascending.{contains}
use Rattle.sc_types.specs.declared.chart.Chart.{Chart}
use Rattle.sc_law.specs.Tree.{state_count}
use Rattle.sc_law.specs.Kinds.{is_history}
use Rattle.sc_law.specs.Configurations.{IsConfiguration}
use Rattle.sc_law.specs.Sets.{Histories, exit_set}
use Rattle.sc_law.specs.Entry.{entry, first_entry}
use Rattle.sc_law.specs.Fitting.{IsRecorded, are_states, rises}
use Rattle.sc_sets.specs.Union.{AreKept, recorded_by}

-- the configuration after transitions were taken in it
abbrev pub IsAfter : Chart → Histories → List ℕ → List ℕ → List ℕ → Type 0
IsAfter c h configuration ts after = (s : ℕ)
    → contains after s ≡ (contains configuration s && not (contains (exit_set c h ts configuration) s)
    || contains (entry c h (recorded_by c h ts configuration) ts).states s)

-- records in the order of their histories
abbrev pub AreInOrder : Histories → Type 0
AreInOrder h = IsTrue (rises (map (λ (kept : ℕ × List ℕ). kept.0) h))

-- records that are lists of states
abbrev pub HaveStates : Chart → Histories → Type 0
HaveStates c h = IsTrue (list_all (λ (kept : ℕ × List ℕ). are_states c kept.1) h)

-- what holds for each microstep of the chart, and for its first entry
pub record Laws (c : Chart) : Type 0 where
  pub legal_after : (h : Histories) (configuration ts after : List ℕ) → AreKept c h configuration ts
      → IsAfter c h configuration ts after
      → IsConfiguration c after
  pub legal_first : (after : List ℕ) → ((s : ℕ) → contains after s ≡ contains (first_entry c).states s)
      → IsConfiguration c after
  pub entered_new : (h : Histories) (configuration ts : List ℕ) → AreKept c h configuration ts → (s : ℕ)
      → contains (entry c h (recorded_by c h ts configuration) ts).states s ≡ true
      → (contains configuration s && not (contains (exit_set c h ts configuration) s)) ≡ false
  pub entered_states : (h : Histories) (configuration ts : List ℕ) → AreKept c h configuration ts
      → IsTrue (list_all (λ s. nat_lt s (state_count c) && not (is_history c s))
      (entry c h (recorded_by c h ts configuration) ts).states)
  pub first_states : IsTrue (list_all (λ s. nat_lt s (state_count c) && not (is_history c s)) (first_entry c).states)
  pub recorded_after : (h : Histories) (configuration ts : List ℕ) → AreKept c h configuration ts
      → All (IsRecorded c) (recorded_by c h ts configuration)
  pub order_after : (h : Histories) (configuration ts : List ℕ) → AreKept c h configuration ts
      → rises configuration ≡ true
      → AreInOrder h → HaveStates c h → AreInOrder (recorded_by c h ts configuration)
  pub kept_after : (h : Histories) (configuration ts : List ℕ) → AreKept c h configuration ts
      → rises configuration ≡ true
      → AreInOrder h → HaveStates c h → HaveStates c (recorded_by c h ts configuration)
