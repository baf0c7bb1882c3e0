use Rattle.std.proofs.Common.{◌<◌, ◌^◌, sym, ◌∙◌, arith}
use Rattle.std.proofs.lemmas.Grind.{common_steps}
use Rattle.std.specs.Str.Parse.{digits_value}
use Rattle.sc_script.proofs.ShortNumberLemmas.{short_parts, short_bound}
use Rattle.sc_script.proofs.short_numbers.short_value.Goals as goal

pub overflow_cast-result : goal.overflow_cast-result
overflow_cast-result c =
    let s = short_parts c.args.text.now (sym c.is_short.ensures ∙ c.if-is_short.true) in
    let bound : digits_value 10 c.args.text.now < 10 ^ 18 = short_bound c.args.text.now s.digits s.short in
    let small : c.digits_value.result < 2 ^ 63 = omega (arith, bound, c.digits_value.ensures) in
    grind (arith, small)

pub returns-then-is_short : goal.returns-then-is_short
returns-then-is_short c =
    let yes = sym c.is_short.ensures ∙ c.if-is_short.true in
    let s = short_parts c.args.text.now yes in
    let bound : digits_value 10 c.args.text.now < 10 ^ 18 = short_bound c.args.text.now s.digits s.short in
    let small : c.digits_value.result < 2 ^ 63 = omega (arith, bound, c.digits_value.ensures) in
    rw yes (grind (arith, common_steps, small))
