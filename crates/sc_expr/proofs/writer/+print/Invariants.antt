use Rattle.std.proofs.Common.{◌≡◌, ◌++◌, map, codes, take}
use Rattle.sc_types.specs.Expressions.{expr_text}
use Rattle.sc_types.specs.Values.{joined}
use Rattle.sc_expr.proofs.writer.+print.Given as goal

abbrev pub invariant-put_list-loop-i : goal.invariant-put_list-loop-i
invariant-put_list-loop-i l = l.out ≡ l.fn.out ++ (codes "[" ++ joined (map expr_text (take l.i l.items)))
