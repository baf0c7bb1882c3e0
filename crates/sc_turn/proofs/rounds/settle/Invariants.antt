use Rattle.std.proofs.Common.{◌≡◌}
use Rattle.sc_law.specs.Turn.{settle}
use Rattle.sc_turn.specs.States.{IsOver, state_of}
use Rattle.sc_turn.proofs.rounds.settle.Given as goal

abbrev pub invariant-loop-round : goal.invariant-loop-round
invariant-loop-round l = record {
  rest : settle l.plan l.left (state_of l.x) ≡ settle l.plan l.rounds (state_of l.fn.x);
  over : IsOver l.plan l.x;
}

abbrev pub decreases-loop-round : goal.decreases-loop-round
decreases-loop-round l = l.left
