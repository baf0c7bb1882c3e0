use Rattle.std.proofs.Common.{◌+◌, drop, flat_map, ap, ◌∙◌}
use Rattle.sc_types.specs.declared.chart.Tag.TheVariants as tag
use Rattle.sc_law.specs.Content.{run_blocks}
use Rattle.sc_law.specs.Data.{with_tag}
use Rattle.sc_law.specs.Nodes.{kids}
use Rattle.sc_exec.proofs.Kept.{has_ids, kept_then}
use Rattle.sc_exec.specs.Runs.{running_of}
use Rattle.sc_micro.proofs.BlockLemmas.{tagged-step}
use Rattle.sc_micro.proofs.entering.run_defaults.Goals as goal

pub loop-node-preserved : goal.loop-node-preserved
loop-node-preserved c = record {
  steps =
      ap (run_blocks (flat_map kids (with_tag tag.Initial (drop (c.loop-node.node-index + 1) c.args.nodes.now))))
      c.in_ok-run_default.ensures.ok
      ∙ tagged-step tag.Initial c.args.nodes.now c.loop-node.node-index c.node-item.result
      (running_of c.loop-node.run) c.loop-node-test.true c.node-item.is
      ∙ c.loop-node.invariant.steps;
  kept = kept_then c.args.run.now c.loop-node.run c.run_default.new.run c.loop-node.invariant.kept
      c.in_ok-run_default.ensures.kept;
  ids = has_ids c.loop-node.run c.run_default.new.run c.loop-node.invariant.ids c.in_ok-run_default.ensures.kept;
}
