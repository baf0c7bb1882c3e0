use Rattle.std.proofs.Common.{◌∙◌, sym, length}
use Rattle.sc_expr.proofs.DelayLemmas.{short_digits, short_bound}
use Rattle.sc_expr.proofs.RunLemmas.{is_above}
use Rattle.sc_expr.proofs.delay.short_number.Goals as goal

pub returns-else-is_empty-clause-value : goal.returns-else-is_empty-clause-value
returns-else-is_empty-clause-value c =
    c.read_digits.ensures ∙ short_digits c.args.text.now (is_above (length c.args.text.now) (sym c.is_empty.ensures ∙ c.if-is_empty.false)) c.requires

pub returns-else-is_empty-clause-bound : goal.returns-else-is_empty-clause-bound
returns-else-is_empty-clause-bound c = short_bound c.args.text.now c.read_digits.result (returns-else-is_empty-clause-value c) c.requires
