use Rattle.std.proofs.Common.{arith, sym}
use Rattle.sc_sets.proofs.BelowSets.{past_compound}
use Rattle.sc_sets.proofs.domains.is_compound_state.Goals as goal

pub returns-else-s-count : goal.returns-else-s-count
returns-else-s-count c =
    sym (past_compound c.args.t.now c.args.s c.chart-chart.ensures.legal (omega (arith, c.count.ensures, c.if-s-count.false)))
