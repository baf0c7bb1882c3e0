use Rattle.std.proofs.Common.{◌≡◌, ◌≤◌, ◌-◌, ◌^◌, drop, max, min}
use Rattle.sc_types.specs.Values.{deepest_of}
use Rattle.sc_types.proofs.value.+depth.Given as goal

abbrev pub invariant-deepest-loop-item : goal.invariant-deepest-loop-item
invariant-deepest-loop-item l = (l.most ≤ 2 ^ 32 - 1)
    × (min (max l.most (deepest_of (drop l.item-index l.items))) (2 ^ 32 - 1) ≡ min (deepest_of l.items) (2 ^ 32 - 1))
