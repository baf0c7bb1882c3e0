use Rattle.std.proofs.Common.{refl}
use Rattle.sc_bits.proofs.BitLemmas.{bit_of-set_bit}
use Rattle.sc_bits.proofs.words.set_bit.Goals as goal

pub returns : goal.returns
returns c = bit_of-set_bit c.args.words.now c.args.n _ c.requires refl
