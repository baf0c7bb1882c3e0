use Rattle.std.proofs.Common.{arith}
use Rattle.sc_bits.proofs.BitLemmas.{bit_of-and_not}
use Rattle.sc_bits.proofs.words.minus_words.Goals as goal

pub returns : goal.returns
returns c = bit_of-and_not c.args.words.now c.args.other.now c.loop-i.words c.requires (omega arith)
    (λ i h. omega (arith, c.type_inv.other i)) (λ i h. c.loop-i.invariant.done i (omega arith))
