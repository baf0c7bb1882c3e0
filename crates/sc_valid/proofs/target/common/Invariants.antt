use Rattle.std.proofs.Common.{◌≡◌, ◌≤◌, ◌-◌, ◌++◌, drop, take, length}
use Rattle.sc_law.specs.Legality.{common}
use Rattle.sc_valid.proofs.target.common.Given as goal

abbrev pub invariant-loop-count : goal.invariant-loop-count
invariant-loop-count l = (take l.count l.a ++ common (drop l.count l.a) (drop l.count l.b) ≡ common l.a l.b) × (l.count ≤ length l.a) × (l.count ≤ length l.b)

abbrev pub decreases-loop-count : goal.decreases-loop-count
decreases-loop-count l = length l.a - l.count
