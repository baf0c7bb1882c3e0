use Rattle.std.proofs.Common.{◌≡◌, ◌≤◌, ◌+◌, ◌-◌, ◌^◌, drop, min, sum_by}
use Rattle.sc_machine.specs.Commands.{pair_weight}
use Rattle.sc_core.proofs.weights.weight_of.Given as goal

abbrev pub invariant-loop-pair : goal.invariant-loop-pair
invariant-loop-pair l = (l.total ≤ 2 ^ 64 - 1)
    × (min (l.total + sum_by pair_weight (drop l.pair-index l.pairs)) (2 ^ 64 - 1) ≡ min (sum_by pair_weight l.pairs) (2 ^ 64 - 1))
