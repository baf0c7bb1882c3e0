use Rattle.std.proofs.Common.{◌≡◌, drop}
use Rattle.sc_types.specs.declared.chart.Tag.TheVariants as tag
use Rattle.sc_law.specs.Content.{run_blocks}
use Rattle.sc_law.specs.Data.{with_tag}
use Rattle.sc_eval.specs.Envs.{HasIds}
use Rattle.sc_exec.specs.Runs.{KeepsRows, running_of}
use Rattle.sc_turn.proofs.finalizing.run_finalize.Given as goal

abbrev pub invariant-loop-node : goal.invariant-loop-node
invariant-loop-node l = record {
  rest : run_blocks (with_tag tag.Finalize (drop l.node-index l.nodes)) (running_of l.run)
      ≡ run_blocks (with_tag tag.Finalize l.nodes) (running_of l.fn.run);
  kept : KeepsRows l.fn.run l.run;
  ids : HasIds l.run.env;
}
