use Rattle.std.proofs.Common.{get_or, arith}
use Rattle.std.proofs.lemmas.Nat.{and_le_l}
use Rattle.sc_bits.proofs.BitLemmas.{bits-none, bits-common}
use Rattle.sc_bits.proofs.words.words_meet.Goals as goal

pub returns-then-words-i-ne0 : goal.returns-then-words-i-ne0
returns-then-words-i-ne0 c = bits-common c.args.words.now c.args.other.now c.loop-i.i c.if-words-i-ne0.true
    (omega (arith, c.type_inv.words c.loop-i.i, and_le_l (get_or c.args.words.now c.loop-i.i 0) (get_or c.args.other.now c.loop-i.i 0)))

pub returns : goal.returns
returns c = bits-none c.args.words.now c.args.other.now c.requires (λ i h. c.loop-i.invariant i (omega arith))
