use Rattle.std.proofs.Common.{◌≡◌, arith}
use Rattle.std.proofs.Common.{take}
use Rattle.std.specs.Str.Parse.{digits_value}
use Rattle.sc_script.proofs.ShortNumberLemmas.{a_digit, more_digits, front_bound}
use Rattle.sc_script.proofs.short_numbers.digits_value.Goals as goal

pub overflow_mul-number : goal.overflow_mul-number
overflow_mul-number c =
    let so_far : c.loop-byte.number ≡ digits_value 10 (take c.loop-byte.byte-index c.args.text.now) =
    c.loop-byte.invariant in
    let bound = front_bound c.args.text.now c.loop-byte.byte-index c.requires.digits c.requires.short in
    omega (arith, so_far, bound)

pub overflow_add-number : goal.overflow_add-number
overflow_add-number c =
    let so_far : c.loop-byte.number ≡ digits_value 10 (take c.loop-byte.byte-index c.args.text.now) =
    c.loop-byte.invariant in
    let bound = front_bound c.args.text.now c.loop-byte.byte-index c.requires.digits c.requires.short in
    let digit = a_digit c.args.text.now c.loop-byte.byte-index c.requires.digits c.loop-byte-test.true in
    omega (arith, so_far, bound, digit)

pub loop-byte-preserved : goal.loop-byte-preserved
loop-byte-preserved c =
    let so_far : c.loop-byte.number ≡ digits_value 10 (take c.loop-byte.byte-index c.args.text.now) =
    c.loop-byte.invariant in
    let more = more_digits c.args.text.now c.loop-byte.byte-index c.requires.digits c.loop-byte-test.true in
    omega (arith, so_far, more)
