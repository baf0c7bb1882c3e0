use Rattle.std.proofs.Common.{◌*◌, ◌/◌, ◌%◌, ◌^◌, ◌-◌, get_or, arith, refl}
use Rattle.std.proofs.lemmas.Nat.{and_le_l}
use Rattle.sc_bits.proofs.NextBitLemmas.{rest-zero, rest-next, word-next}
use Rattle.sc_bits.proofs.words.next_bit.Goals as goal

pub returns-then-rest-ne0 : goal.returns-then-rest-ne0
returns-then-rest-ne0 c = rest-next c.args.words.now c.args.from _ refl c.if-rest-ne0.true
    (omega (arith, c.type_inv.words (c.args.from / 64), and_le_l (get_or c.args.words.now (c.args.from / 64) 0) ((2 ^ 64 - 1) * 2 ^ (c.args.from % 64) % 2 ^ 64)))

pub loop-place-init : goal.loop-place-init
loop-place-init c = rest-zero c.args.words.now c.args.from c.if-rest-ne0.false

pub returns-then-word-ne0 : goal.returns-then-word-ne0
returns-then-word-ne0 c = word-next c.args.words.now c.args.from c.loop-place.place c.loop-place.invariant (omega arith) c.if-word-ne0.true
    (omega (arith, c.type_inv.words c.loop-place.place))
