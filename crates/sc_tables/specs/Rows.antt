-- The rows of a chart's states: numbers below the count of the states and histories. This host's own rule.
use Rattle.std.specs.Prelude.{ℕ, List}
use Rattle.sc_types.specs.declared.chart.Chart.{Chart}
use Rattle.sc_bits.specs.Rows.{RowOf}
use Rattle.sc_law.specs.Nodes.{leads_on}
use Rattle.sc_law.specs.Tree.{numbers_where, path_of, state_count, state_paths}

-- the row of these members
abbrev pub row_of : Chart → List ℕ → RowOf
row_of c ss = record { width = state_count c; members = ss }

-- the states and histories whose paths lead on from that of a state, or of the root
abbrev pub below : Chart → ℕ → List ℕ
below c s = numbers_where (leads_on (path_of c s)) 0 (state_paths c)
