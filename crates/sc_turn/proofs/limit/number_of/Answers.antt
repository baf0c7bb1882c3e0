use Rattle.std.proofs.Common.{◌≡◌, ◌+◌, arith}
use Rattle.std.proofs.lemmas.Int.Digits.{digits_value_more}
use Rattle.std.proofs.lemmas.Str.Parse.{digits_value-take-le}
use Rattle.sc_turn.proofs.limit.number_of.Goals as goal

pub loop-byte-preserved : goal.loop-byte-preserved
loop-byte-preserved c =
    let text = c.args.text.now in
    let i = c.loop-byte.byte-index in
    let more = digits_value_more 10 text i c.loop-byte-test.true in
    let least = digits_value-take-le 10 text (i + 1) (omega arith) in
    record { within = omega (arith, more, least); read = omega (arith, more) }
