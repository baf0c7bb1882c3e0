-- What each step of the reader answers. Only contracts of private functions cite this.
use Rattle.std.specs.Prelude.{◌≡◌, ◌≤◌, Option, Some, None, List, length, Result, Err, IfOk, OnOk}
use Rattle.sc_types.specs.Expressions.{depth}
use Rattle.sc_types.specs.declared.expr.Expr.{Expr}
use Rattle.sc_types.specs.declared.token.Token.{Token}
use Rattle.sc_expr.specs.Descent.{Parse, within}
use Rattle.sc_expr.specs.declared.fault.ExprFault.{ExprFault}
use Rattle.sc_expr.specs.declared.fault.ExprFault.TheVariants.{NotExpr}
use Rattle.sc_types.specs.declared.limits.TheConstants.{EXPRESSION_LEVEL_LIMIT}

-- what `parse` reads of the tokens `old` was read, and the tokens `new` are left
pub record Reads {A : Type 0} (parse : Parse A) (old : List Token) (answer : Result A ExprFault)
    (new : List Token) : Type 0 where
  pub value : IfOk answer (λ a. parse old ≡ Some (a, new))
  pub refused : answer ≡ Err NotExpr → parse old ≡ None
  pub shorter : OnOk answer (length new ≤ length old)

-- the same of an expression, which is never too deep
pub record ReadsExpr (parse : Parse Expr) (old : List Token) (answer : Result Expr ExprFault)
    (new : List Token) : Type 0 where
  pub value : IfOk answer (λ e. parse old ≡ Some (e, new))
  pub refused : answer ≡ Err NotExpr → parse old ≡ None
  pub shorter : OnOk answer (length new ≤ length old)
  pub shallow : IfOk answer (λ e. depth e ≤ EXPRESSION_LEVEL_LIMIT)

-- the tokens that `after` passes over were passed
pub record Passes {A : Type 0} (after : List Token → Option (List Token)) (old : List Token)
    (answer : Result A ExprFault) (new : List Token) : Type 0 where
  pub value : OnOk answer (after old ≡ Some new)
  pub refused : answer ≡ Err NotExpr → after old ≡ None
  pub shorter : OnOk answer (length new ≤ length old)

-- this expression was made, where it is not too deep
pub record Makes (e : Expr) (answer : Result Expr ExprFault) : Type 0 where
  pub value : IfOk answer (λ made. within e ≡ Some made)
  pub refused : answer ≡ Err NotExpr → within e ≡ None
  pub shallow : IfOk answer (λ made. depth made ≤ EXPRESSION_LEVEL_LIMIT)
