use Rattle.std.proofs.Common.{◌≡◌, ◌-◌, drop, length}
use Rattle.sc_core.specs.Parting.{is_cut_in}
use Rattle.sc_core.proofs.endings.is_cut_in.Given as goal

abbrev pub invariant-loop-change : goal.invariant-loop-change
invariant-loop-change g l = is_cut_in l.changes l.place ≡ is_cut_in (drop l.number l.changes) l.place

abbrev pub decreases-loop-change : goal.decreases-loop-change
decreases-loop-change g l = length l.changes - l.number
