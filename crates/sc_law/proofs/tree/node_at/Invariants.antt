use Rattle.std.proofs.Common.{◌≡◌, drop}
use Rattle.sc_law.specs.Nodes.{node_at}
use Rattle.sc_law.proofs.tree.node_at.Given as goal

abbrev pub invariant-loop-place : goal.invariant-loop-place
invariant-loop-place l = node_at l.node (drop l.place-index l.path) ≡ node_at l.fn.node l.path
