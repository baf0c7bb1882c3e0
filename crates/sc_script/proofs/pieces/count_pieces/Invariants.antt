use Rattle.std.proofs.Common.{length}
use Rattle.sc_script.proofs.pieces.count_pieces.Given as goal

abbrev pub decreases-loop-rest : goal.decreases-loop-rest
decreases-loop-rest l = length l.rest
