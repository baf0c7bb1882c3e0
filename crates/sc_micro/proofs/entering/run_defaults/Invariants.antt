use Rattle.std.proofs.Common.{◌≡◌, drop, flat_map}
use Rattle.sc_types.specs.declared.chart.Tag.TheVariants as tag
use Rattle.sc_law.specs.Content.{run_blocks}
use Rattle.sc_law.specs.Data.{with_tag}
use Rattle.sc_law.specs.Nodes.{kids}
use Rattle.sc_eval.specs.Envs.{HasIds}
use Rattle.sc_exec.specs.Runs.{running_of, KeepsRows}
use Rattle.sc_micro.proofs.entering.run_defaults.Given as goal

abbrev pub invariant-loop-node : goal.invariant-loop-node
invariant-loop-node l = record {
  steps : run_blocks (flat_map kids (with_tag tag.Initial (drop l.node-index l.nodes))) (running_of l.run)
      ≡ run_blocks (flat_map kids (with_tag tag.Initial l.nodes)) (running_of l.fn.run);
  kept : KeepsRows l.fn.run l.run;
  ids : HasIds l.run.env;
}
