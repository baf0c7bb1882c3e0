use Rattle.std.proofs.Common.{◌≡◌, length, slice_get}
use Rattle.sc_ranks.specs.Nodes.{linked}
use Rattle.sc_ranks.proofs.node.entry_at.Given as goal

abbrev pub invariant-loop-below : goal.invariant-loop-below
invariant-loop-below l = slice_get (linked l.below) l.rest ≡ slice_get (linked l.link) l.place

abbrev pub decreases-loop-below : goal.decreases-loop-below
decreases-loop-below l = length (linked l.below)
