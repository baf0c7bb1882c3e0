use Rattle.std.proofs.Common.{◌≡◌, ◌≤◌, ◌+◌, ◌-◌, ◌^◌, drop, min, sum_by}
use Rattle.sc_types.specs.Values.{weight}
use Rattle.sc_types.proofs.value.+weight.Given as goal

abbrev pub invariant-weights_of-loop-item : goal.invariant-weights_of-loop-item
invariant-weights_of-loop-item l = (l.total ≤ 2 ^ 64 - 1)
    × (min (l.total + sum_by weight (drop l.item-index l.items)) (2 ^ 64 - 1) ≡ min (sum_by weight l.items) (2 ^ 64 - 1))
