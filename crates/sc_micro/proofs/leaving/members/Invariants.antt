use Rattle.std.proofs.Common.{◌≡◌, ◌-◌, ◌<◌, ◌++◌, All}
use Rattle.sc_law.specs.Tree.{state_count}
use Rattle.sc_sets.proofs.Members.{from_on}
use Rattle.sc_micro.proofs.leaving.members.Given as goal

abbrev pub invariant-loop-member : goal.invariant-loop-member
invariant-loop-member l = record {
  rest : l.members ++ from_on l.from l.row.members ≡ l.row.members;
  within : All (λ m. m < state_count l.t) l.members;
}

abbrev pub decreases-loop-member : goal.decreases-loop-member
decreases-loop-member l = l.row.width - l.from
