use Rattle.std.proofs.Common.{length}
use Rattle.sc_core.proofs.NewbornLemmas.{GoesOn}
use Rattle.sc_core.proofs.newborns.with_rooms.Given as goal

abbrev pub invariant-loop-change : goal.invariant-loop-change
invariant-loop-change g l = GoesOn l.gets l.count l.initial.changes l.changes l.roomy

abbrev pub decreases-loop-change : goal.decreases-loop-change
decreases-loop-change g l = length l.changes
