use Rattle.std.proofs.Common.{arith}
use Rattle.sc_micro.proofs.staying.are_in_order.Goals as goal

pub overflow_add-from : goal.overflow_add-from
overflow_add-from c = omega (arith, c.may_follow.ensures.within c.if-not-may_follow.false, c.count-root.ensures)
