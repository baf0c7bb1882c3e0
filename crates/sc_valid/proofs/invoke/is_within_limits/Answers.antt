use Rattle.std.proofs.Common.{◌≡◌, ℕ, ◌+◌, ◌<◌, false, ◌&&◌, nat_le, arith}
use Rattle.std.proofs.lemmas.Bool.Decides.{nat_tests}
use Rattle.std.proofs.lemmas.Int.Digits.{digits_value_more}
use Rattle.std.proofs.lemmas.Str.Parse.{digits_value-take-le}
use Rattle.std.specs.Str.Parse.{digits_value}
use Rattle.sc_valid.proofs.invoke.is_within_limits.Goals as goal

past_limit : (value : ℕ) → 10000 < value → false ≡ (nat_le 1 value && nat_le value 10000)
past_limit value h = grind (arith, nat_tests)

pub returns-then-number-gt10000 : goal.returns-then-number-gt10000
returns-then-number-gt10000 c =
    let text = c.args.text.now in
    let i = c.loop-byte.byte-index in
    let more = digits_value_more 10 text i c.loop-byte-test.true in
    let least = digits_value-take-le 10 text (i + 1) (omega arith) in
    past_limit (digits_value 10 text) (omega (arith, more, least))

pub loop-byte-preserved : goal.loop-byte-preserved
loop-byte-preserved c =
    let more = digits_value_more 10 c.args.text.now c.loop-byte.byte-index c.loop-byte-test.true in
    record { within = omega arith; read = omega (arith, more) }
