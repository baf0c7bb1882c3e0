use Rattle.std.proofs.Common.{◌≡◌, take}
use Rattle.sc_core.proofs.same_states.+same_value.Given as goal

abbrev pub invariant-same_values-loop-i : goal.invariant-same_values-loop-i
invariant-same_values-loop-i l = take l.i l.a ≡ take l.i l.b
