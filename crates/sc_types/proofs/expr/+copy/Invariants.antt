use Rattle.std.proofs.Common.{◌≡◌, take}
use Rattle.sc_types.proofs.expr.+copy.Given as goal

abbrev pub invariant-copy_exprs-loop-item : goal.invariant-copy_exprs-loop-item
invariant-copy_exprs-loop-item l = l.copy ≡ take l.item-index l.item-items
