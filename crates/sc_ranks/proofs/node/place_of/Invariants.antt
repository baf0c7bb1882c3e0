use Rattle.std.proofs.Common.{◌≡◌, ◌+◌, ◌≤◌, length}
use Rattle.sc_ranks.specs.Nodes.{linked}
use Rattle.sc_ranks.specs.Ranks.{place_of, IsRising}
use Rattle.sc_ranks.proofs.node.place_of.Given as goal

abbrev pub invariant-loop-below : goal.invariant-loop-below
invariant-loop-below l = record {
  place : l.place + place_of l.first l.number (linked l.below) ≡ place_of l.first l.number (linked l.link);
  rising : IsRising (linked l.below);
  within : l.place + length (linked l.below) ≤ length (linked l.link);
}

abbrev pub decreases-loop-below : goal.decreases-loop-below
decreases-loop-below l = length (linked l.below)
