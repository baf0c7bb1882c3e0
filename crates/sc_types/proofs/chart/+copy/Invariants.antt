use Rattle.std.proofs.Common.{◌≡◌, take}
use Rattle.sc_types.proofs.chart.+copy.Given as goal

abbrev pub invariant-copy_nodes-loop-node : goal.invariant-copy_nodes-loop-node
invariant-copy_nodes-loop-node l = l.copy ≡ take l.node-index l.node-items
