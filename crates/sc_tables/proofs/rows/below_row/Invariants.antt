use Rattle.std.proofs.Common.{◌≡◌, take}
use Rattle.sc_law.specs.Nodes.{leads_on}
use Rattle.sc_law.specs.Tree.{numbers_where}
use Rattle.sc_tables.proofs.rows.below_row.Given as goal

abbrev pub invariant-loop-state : goal.invariant-loop-state
invariant-loop-state l = record {
  width : l.row.width ≡ l.width;
  members : l.row.members ≡ numbers_where (leads_on l.path) 0 (take l.state l.paths);
}
