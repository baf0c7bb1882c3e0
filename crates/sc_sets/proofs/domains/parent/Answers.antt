use Rattle.std.proofs.Common.{arith}
use Rattle.sc_sets.proofs.BelowSets.{past_ancestors}
use Rattle.sc_sets.proofs.domains.parent.Goals as goal

pub returns-else-s-count-clause-value : goal.returns-else-s-count-clause-value
returns-else-s-count-clause-value c = past_ancestors c.args.t.now c.args.s (omega (arith, c.count.ensures, c.if-s-count.false))
