use Rattle.std.proofs.Common.{rules}
use Rattle.sc_valid.proofs.CommonLemmas.{first_ends, second_ends, they_part}
use Rattle.sc_valid.proofs.target.common.Goals as goal
use Rattle.sc_valid.proofs.target.common.Goals.{then-loop-count-test+then-count-b+else-a-count, then-loop-count-test+else-count-b, else-loop-count-test}

pub returns : goal.returns
returns c = elim c.loop-count-test.branch [
  | then-loop-count-test+then-count-b+else-a-count w ↦ they_part c.args.a.now c.args.b.now c.loop-count.count c.loop-count.invariant.0 (search rules) (search rules) (search rules)
  | then-loop-count-test+else-count-b w ↦ second_ends c.args.a.now c.args.b.now c.loop-count.count c.loop-count.invariant.0 (search rules)
  | else-loop-count-test w ↦ first_ends c.args.a.now c.args.b.now c.loop-count.count c.loop-count.invariant.0 (search rules)
]
