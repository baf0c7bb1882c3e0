use Rattle.std.proofs.Common.{length}
use Rattle.sc_book.proofs.OpenLemmas.{IsReplaying}
use Rattle.sc_book.proofs.opening.replay.Given as goal

abbrev pub invariant-loop-body : goal.invariant-loop-body
invariant-loop-body g l = IsReplaying l.fn.bodies l.left l.number l.host.image

abbrev pub decreases-loop-body : goal.decreases-loop-body
decreases-loop-body g l = length l.left
