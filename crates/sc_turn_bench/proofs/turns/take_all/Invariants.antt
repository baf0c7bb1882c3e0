use Rattle.sc_turn_bench.specs.Sessions.{Waits}
use Rattle.sc_turn_bench.proofs.turns.take_all.Given as goal

abbrev pub invariant-loop : goal.invariant-loop
invariant-loop l = Waits l.plan l.state
