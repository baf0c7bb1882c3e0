use Rattle.std.proofs.Common.{◌≡◌, length}
use Rattle.sc_script.specs.Pairs.{pairs_of}
use Rattle.sc_script.proofs.PairLemmas.{onto}
use Rattle.sc_script.proofs.pairs.read_pairs.Given as goal

abbrev pub invariant-loop-rest : goal.invariant-loop-rest
invariant-loop-rest l = onto l.pairs (pairs_of l.rest) ≡ pairs_of l.text

abbrev pub decreases-loop-rest : goal.decreases-loop-rest
decreases-loop-rest l = length l.rest
