use Rattle.std.proofs.Common.{◌≡◌, false, ap, arith, sym, ◌∙◌}
use Rattle.sc_law.specs.Configurations.{parent_of}
use Rattle.sc_law.specs.Kinds.{is_parallel}
use Rattle.sc_law.specs.Tree.{root}
use Rattle.sc_exec.specs.Runs.{running_of}
use Rattle.sc_micro.proofs.RootLemmas.{past_parallel, untold}
use Rattle.sc_micro.proofs.done.tell_above.Goals as goal

pub returns-in-None-clause-ok : goal.returns-in-None-clause-ok
returns-in-None-clause-ok c =
    let k = c.args.t.now in
    let other : is_parallel k (parent_of k c.args.s) ≡ false =
    ap (is_parallel k) (sym c.in-None.ensures.value)
    ∙ past_parallel k (root k) c.chart-chart.ensures.legal (omega arith) in
    untold k (parent_of k c.args.s) (running_of c.args.run.now) other
