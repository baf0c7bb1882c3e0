-- What the sets of a microstep stand on. This host's own rule.
use Rattle.std.specs.Prelude.{ℕ, IsTrue, List, nat_lt}
use Rattle.std.specs.List.{list_all}
use Rattle.sc_types.specs.declared.chart.Chart.{Chart}
use Rattle.sc_law.specs.Sets.{Histories}
use Rattle.sc_law.specs.Tree.{state_count}

-- each record holds numbers of states, as those of a state that fits the chart do
abbrev pub KeepsStates : Chart → Histories → Type 0
KeepsStates c h = IsTrue (list_all (λ (kept : ℕ × List ℕ). list_all (λ s. nat_lt s (state_count c)) kept.1) h)
