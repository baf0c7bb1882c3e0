-- How expressions and values compute by one level: what they are made of is opened by one name.
use Rattle.std.proofs.Common.{ℕ}
use Rattle.sc_types.specs.declared.expr.Expr.TheViews.{out-Expr, roll-Expr}
use Rattle.sc_types.specs.declared.expr.Expr.TheBlock.{shown-the_row-Expr-0, shown-the_row-Expr-1}
use Rattle.sc_types.specs.declared.value.Value.TheViews.{out-Value, roll-Value}
use Rattle.sc_types.specs.declared.value.Value.TheBlock.{shown-the_row-Value-0}
use denote.Hole.Carrier as carrier
use Rattle.sc_law.specs.Evaluation.{value, same_value}

unfoldable pub opened : ℕ
unfolding out-Expr roll-Expr shown-the_row-Expr-0 shown-the_row-Expr-1 out-Value roll-Value shown-the_row-Value-0 carrier.out carrier.roll carrier.shown carrier.hidden value same_value
opened = 0
