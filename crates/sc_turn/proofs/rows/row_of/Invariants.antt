use Rattle.std.proofs.Common.{◌≡◌, ◌++◌, ◌&&◌, drop, nat_lt, not, true}
use Rattle.std.specs.List.{list_all}
use Rattle.sc_law.specs.Kinds.{is_history}
use Rattle.sc_law.specs.Tree.{state_count}
use Rattle.sc_turn.proofs.rows.row_of.Given as goal

abbrev pub invariant-loop-s : goal.invariant-loop-s
invariant-loop-s l = record {
  width : l.row.width ≡ state_count l.t;
  members : l.row.members ++ drop l.s-index l.states ≡ l.states;
  within : list_all (λ s. nat_lt s (state_count l.t) && not (is_history l.t s)) (drop l.s-index l.states) ≡ true;
}
