use Rattle.std.proofs.Common.{◌≡◌, ◌++◌, ◌-◌, drop, length}
use Rattle.sc_core.specs.Parting.{new_left}
use Rattle.sc_core.proofs.endings.add_births.Given as goal

abbrev pub invariant-loop-birth : goal.invariant-loop-birth
invariant-loop-birth g l = l.left ++ new_left l.changes (drop l.number l.births) ≡ l.initial.left ++ new_left l.changes l.births

abbrev pub decreases-loop-birth : goal.decreases-loop-birth
decreases-loop-birth g l = length l.births - l.number
