use Rattle.std.proofs.Common.{◌∙◌, ap}
use Rattle.sc_types.specs.Delays.{are_digits}
use Rattle.sc_chart_json.proofs.DigitLemmas.{is_ok-parsed, no_digits}
use Rattle.sc_chart_json.proofs.form.is_of_32_bits.Goals as goal

pub returns-in-Ok : goal.returns-in-Ok
returns-in-Ok c =
    let same = c.in-Ok.ensures.cases.0 in
    rw (← same) (c.is_ok.ensures.value ∙ is_ok-parsed c.in-Ok.text.now c.parse.result c.parse.ensures.value.0 (rw same c.requires.some) (ap are_digits same ∙ c.requires.each))

pub returns-in-Err : goal.returns-in-Err
returns-in-Err c = absurd (no_digits c.args.digits.now c.in-Err.ensures.cases.0 c.requires.each)
