use Rattle.std.proofs.Common.{◌≡◌, take}
use Rattle.sc_core.proofs.same_charts.+same_expr.Given as goal

abbrev pub invariant-same_exprs-loop-i : goal.invariant-same_exprs-loop-i
invariant-same_exprs-loop-i l = take l.i l.a ≡ take l.i l.b
