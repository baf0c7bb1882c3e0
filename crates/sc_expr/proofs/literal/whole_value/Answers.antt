use Rattle.std.proofs.Common.{◌∙◌, [], refl, arith}
use Rattle.std.proofs.lemmas.Grind.{common_steps}
use Rattle.sc_expr.proofs.NestedLemmas.{ended, unended}
use Rattle.sc_expr.proofs.literal.whole_value.Goals as goal

pub returns-in_err-end-clause-refused : goal.returns-in_err-end-clause-refused
returns-in_err-end-clause-refused c =
    λ e. c.in_ok-value.ensures.ok [] refl
    ∙ unended c.in_ok-value.value c.next_value.new.lexer
    (c.in_err-end.ensures.refused (grind (arith, common_steps, e, c.from_residual-in_err-end.ensures)))

pub returns-clause-ok : goal.returns-clause-ok
returns-clause-ok c =
    c.in_ok-value.ensures.ok [] refl ∙ ended c.in_ok-value.value c.next_value.new.lexer c.in_ok-end.ensures.ok
