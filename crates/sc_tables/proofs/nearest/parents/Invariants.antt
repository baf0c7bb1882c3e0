use Rattle.std.proofs.Common.{◌≡◌, length}
use Rattle.sc_tables.specs.Nearest.{HasParents}
use Rattle.sc_tables.proofs.nearest.parents.Given as goal

abbrev pub invariant-loop-state : goal.invariant-loop-state
invariant-loop-state l = record {
  size : length l.parents ≡ l.state;
  has : HasParents l.paths l.parents;
}
