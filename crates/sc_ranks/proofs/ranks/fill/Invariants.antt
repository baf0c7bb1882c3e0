use Rattle.std.proofs.Common.{◌≡◌, ◌-◌, ◌≤◌, max, length}
use Rattle.std.specs.Prelude.{vec_capacity}
use Rattle.sc_ranks.proofs.ranks.fill.Given as goal

abbrev pub invariant-loop-alloc : goal.invariant-loop-alloc
invariant-loop-alloc l = record {
  more : length l.initial.nodes.items ≤ length l.nodes.items;
  most : length l.nodes.items ≤ max (length l.initial.nodes.items) l.count;
  capacity : vec_capacity l.nodes ≡ vec_capacity l.initial.nodes;
}

abbrev pub decreases-loop-alloc : goal.decreases-loop-alloc
decreases-loop-alloc l = l.count - length l.nodes.items
