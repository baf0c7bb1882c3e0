-- How closed charts, expressions and values compute: all that they are made of is opened by one name.
use Rattle.std.proofs.Common.{ℕ}
use Rattle.sc_types.specs.declared.chart.Node.TheViews.{out-Node, roll-Node}
use Rattle.sc_types.specs.declared.chart.Node.TheBlock.{shown-the_row-Node-0}
use Rattle.sc_types.specs.declared.expr.Expr.TheViews.{out-Expr, roll-Expr}
use Rattle.sc_types.specs.declared.expr.Expr.TheBlock.{shown-the_row-Expr-0, shown-the_row-Expr-1}
use Rattle.sc_types.specs.declared.value.Value.TheViews.{out-Value, roll-Value}
use Rattle.sc_types.specs.declared.value.Value.TheBlock.{shown-the_row-Value-0}
use denote.Hole.Carrier as carrier
use Rattle.sc_law.specs.Nodes.{elements_from}
use Rattle.sc_law.specs.Content.{part}
use Rattle.sc_types.specs.Values.{depth, weight}
use Rattle.sc_law.specs.Evaluation.{value, same_value}

unfoldable pub opened : ℕ
unfolding out-Node roll-Node shown-the_row-Node-0 out-Expr roll-Expr shown-the_row-Expr-0 shown-the_row-Expr-1 out-Value roll-Value shown-the_row-Value-0 carrier.out carrier.roll carrier.shown carrier.hidden elements_from part value same_value weight depth
opened = 0
