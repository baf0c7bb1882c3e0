use Rattle.std.proofs.Common.{◌≡◌, filter, not, take}
use Rattle.sc_law.specs.Tree.{numbers_where}
use Rattle.sc_tables.specs.Blocks.{is_child_path, is_history_in}
use Rattle.sc_tables.proofs.rows.child_row.Given as goal

abbrev pub invariant-loop-state : goal.invariant-loop-state
invariant-loop-state l = record {
  width : l.row.width ≡ l.width;
  members : l.row.members ≡ filter (λ kid. not (is_history_in l.kinds kid)) (numbers_where (is_child_path l.path) 0 (take l.state l.paths));
}
