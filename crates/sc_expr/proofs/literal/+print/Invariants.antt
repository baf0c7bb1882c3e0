use Rattle.std.proofs.Common.{◌≡◌, ◌++◌, map, take}
use Rattle.sc_types.specs.Values.{joined, value_text}
use Rattle.sc_expr.proofs.literal.+print.Given as goal

abbrev pub invariant-put_values-loop-i : goal.invariant-put_values-loop-i
invariant-put_values-loop-i l = l.out ≡ l.initial.out ++ joined (map value_text (take l.i l.items))
