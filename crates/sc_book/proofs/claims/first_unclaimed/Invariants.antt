use Rattle.std.proofs.Common.{length, ◌-◌}
use Rattle.sc_core.specs.Bodies.{cued}
use Rattle.sc_book.proofs.ClaimLemmas.{AreClaimed}
use Rattle.sc_book.proofs.claims.first_unclaimed.Given as goal

abbrev pub invariant-loop-place : goal.invariant-loop-place
invariant-loop-place g l = AreClaimed l.claims.places l.from (cued 0 l.host.image.sessions)

abbrev pub decreases-loop-place : goal.decreases-loop-place
decreases-loop-place g l = length l.host.image.sessions - l.from
