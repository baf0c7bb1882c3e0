use Rattle.std.proofs.Common.{◌≡◌, take}
use Rattle.sc_types.proofs.value.+copy.Given as goal

abbrev pub invariant-copy_values-loop-item : goal.invariant-copy_values-loop-item
invariant-copy_values-loop-item l = l.copy ≡ take l.item-index l.item-items
