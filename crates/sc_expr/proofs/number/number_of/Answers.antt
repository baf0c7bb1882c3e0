use Rattle.std.proofs.Common.{◌∙◌, sym}
use Rattle.sc_expr.proofs.NumberLemmas.{number_plain, number_with_zero}
use Rattle.sc_expr.proofs.number.number_of.Goals as goal

pub returns-then-has_leading_zero : goal.returns-then-has_leading_zero
returns-then-has_leading_zero c = number_with_zero c.args.text.now (sym c.has_leading_zero.ensures ∙ c.if-has_leading_zero.true)

pub returns : goal.returns
returns c = c.read_digits.ensures ∙ number_plain c.args.text.now (sym c.has_leading_zero.ensures ∙ c.if-has_leading_zero.false)
