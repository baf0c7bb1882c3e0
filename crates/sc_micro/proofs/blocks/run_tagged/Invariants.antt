use Rattle.std.proofs.Common.{◌≡◌, drop}
use Rattle.sc_law.specs.Content.{run_blocks}
use Rattle.sc_law.specs.Data.{with_tag}
use Rattle.sc_eval.specs.Envs.{HasIds}
use Rattle.sc_exec.specs.Runs.{running_of, KeepsRows}
use Rattle.sc_micro.proofs.blocks.run_tagged.Given as goal

abbrev pub invariant-loop-node : goal.invariant-loop-node
invariant-loop-node l = record {
  steps : run_blocks (with_tag l.tag (drop l.node-index l.nodes)) (running_of l.run)
      ≡ run_blocks (with_tag l.tag l.nodes) (running_of l.fn.run);
  kept : KeepsRows l.fn.run l.run;
  ids : HasIds l.run.env;
}
