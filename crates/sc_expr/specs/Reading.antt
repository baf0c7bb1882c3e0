-- How the texts of expressions are read, as a function for the definitions that stand on it. `read_expr` promises that
-- this is the grammar's reading, so nobody has to believe it. This host's own rule.
use Rattle.std.specs.Prelude.{ℕ, Option, List, false}
use Rattle.sc_types.specs.Tokens.{tokens}
use Rattle.sc_types.specs.declared.expr.Expr.{Expr}
use Rattle.sc_types.specs.declared.profile.Profile.{Profile}
use Rattle.sc_expr.specs.Descent.{expression_of}

-- the expression that a text spells in a profile
unfoldable pub expr_of : Profile → List ℕ → Option Expr
expr_of profile text = expression_of (tokens profile false text)
