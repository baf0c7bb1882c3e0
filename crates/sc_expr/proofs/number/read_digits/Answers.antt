use Rattle.std.proofs.Common.{◌∙◌, sym, ap}
use Rattle.sc_expr.proofs.NumberLemmas.{parsed, no_text}
use Rattle.sc_types.specs.Delays.{are_digits}
use Rattle.sc_expr.specs.Numbers.{digits_number}
use Rattle.sc_expr.proofs.number.read_digits.Goals as goal

pub returns-in-Ok : goal.returns-in-Ok
returns-in-Ok c =
    let same = c.in-Ok.ensures.cases.0 in
    let d = sym c.are_digits.ensures ∙ c.if-not-are_digits.false in
    c.ok.ensures.value ∙ parsed c.in-Ok.digits.now c.parse.result c.parse.ensures.value.0 (ap are_digits same ∙ d) ∙ ap digits_number same

pub returns-in-Err : goal.returns-in-Err
returns-in-Err c = no_text c.args.text.now c.in-Err.ensures.cases.0 (sym c.are_digits.ensures ∙ c.if-not-are_digits.false)
