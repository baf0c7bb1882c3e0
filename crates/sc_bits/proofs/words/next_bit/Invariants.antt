use Rattle.std.proofs.Common.{◌*◌}
use Rattle.sc_bits.proofs.NextBitLemmas.{NoneBetween}
use Rattle.sc_bits.proofs.words.next_bit.Given as goal

abbrev pub invariant-loop-place : goal.invariant-loop-place
invariant-loop-place l = NoneBetween l.words l.from (l.place * 64)
