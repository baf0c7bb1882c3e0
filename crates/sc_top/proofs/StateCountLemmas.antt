-- How many states a tree has, by one level.
use Rattle.std.proofs.Common.{◌≡◌, ℕ, ◌+◌, if◌then◌else◌, map, sum}
use Rattle.sc_types.specs.ChartTexts.{state_step, states_in}
use Rattle.sc_types.specs.Elements.{is_numbered}
use Rattle.sc_types.specs.declared.chart.Node.{Node, out-Node}
use Rattle.sc_types.specs.declared.chart.Node.TheFolds.{fold_out-Node}

-- an element, where it is a state, and then those in its child elements
pub states_in_node : (n : Node) → states_in n ≡ (if is_numbered (out-Node n).tag then 1 else 0) + sum (map states_in (out-Node n).kids)
unfolding states_in
states_in_node n = fold_out-Node ℕ state_step n
