use Rattle.std.proofs.Common.{refl}
use Rattle.sc_bits.proofs.BitLemmas.{bit_of-clear_bit}
use Rattle.sc_bits.proofs.words.clear_bit.Goals as goal

pub returns : goal.returns
returns c = bit_of-clear_bit c.args.words.now c.args.n _ c.requires refl
