use Rattle.std.proofs.Common.{◌∙◌, ◌++◌, ap}
use Rattle.std.proofs.lemmas.Result.{IfOk-weaker}
use Rattle.sc_types.specs.Values.{value_text}
use Rattle.sc_expr.specs.Literals.{comma}
use Rattle.sc_expr.proofs.LiteralLemmas.{next_text, closed_text}
use Rattle.sc_expr.proofs.literal.+print.Goals as goal

pub put_values-loop-i-preserved : goal.put_values-loop-i-preserved
put_values-loop-i-preserved t c =
    c.in_ok-put_value.ensures
    ∙ ap (λ t. t ++ value_text c.index-items-i.result) (c.in_ok-put_comma.ensures ∙ ap (λ t. t ++ comma c.loop-i.i) c.loop-i.invariant)
    ∙ next_text c.args.items.now c.loop-i.i c.index-items-i.result c.text.new.self c.loop-i-test.true c.index-items-i.is

pub put_values-returns : goal.put_values-returns
put_values-returns t c =
    IfOk-weaker c.text-2.result _ _
    (λ _ e. closed_text c.args.items.now c.loop-i.i c.args.out.now c.text.new.self c.loop-i.out c.text-2.new.self
    c.in_ok-text.ensures c.loop-i.invariant c.loop-i-test.false e) c.text-2.ensures
