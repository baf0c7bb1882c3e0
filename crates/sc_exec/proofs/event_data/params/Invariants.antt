use Rattle.std.proofs.Common.{◌≡◌, drop, map}
use Rattle.sc_base.specs.Folds.{each}
use Rattle.sc_types.specs.declared.chart.Tag.TheVariants as tag
use Rattle.sc_law.specs.Sending.{child_of, param, params_of, with_child_tag}
use Rattle.sc_eval.specs.Envs.{HasIds}
use Rattle.sc_exec.specs.Runs.{running_of, KeepsRows}
use Rattle.sc_exec.proofs.event_data.params.Given as goal

abbrev pub invariant-loop-kid : goal.invariant-loop-kid
invariant-loop-kid l = record {
  steps : each param (with_child_tag tag.Param (map child_of (drop l.kid-index l.kids))) (l.pairs, running_of l.run)
      ≡ params_of (map child_of l.kids) (running_of l.fn.run);
  kept : KeepsRows l.fn.run l.run;
  ids : HasIds l.run.env;
}
