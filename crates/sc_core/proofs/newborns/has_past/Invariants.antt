use Rattle.std.proofs.Common.{◌≡◌, ◌-◌, drop, length}
use Rattle.sc_core.specs.Newborns.{has_past}
use Rattle.sc_core.proofs.newborns.has_past.Given as goal

abbrev pub invariant-loop-change : goal.invariant-loop-change
invariant-loop-change g l = has_past l.first l.changes ≡ has_past l.first (drop l.number l.changes)

abbrev pub decreases-loop-change : goal.decreases-loop-change
decreases-loop-change g l = length l.changes - l.number
