use Rattle.sc_tables.proofs.Above.{IsNext, left}
use Rattle.sc_tables.proofs.nearest.nearest.Given as goal

abbrev pub invariant-loop-next : goal.invariant-loop-next
invariant-loop-next l = IsNext l.paths l.count l.path l.next

abbrev pub decreases-loop-next : goal.decreases-loop-next
decreases-loop-next l = left l.next
