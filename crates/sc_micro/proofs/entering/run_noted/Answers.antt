use Rattle.std.proofs.Common.{◌+◌, ◌==◌, drop, filter, flat_map, ap, ◌∙◌}
use Rattle.sc_law.specs.Configurations.{parent_of}
use Rattle.sc_law.specs.Content.{run_blocks}
use Rattle.sc_law.specs.Tree.{kids_of}
use Rattle.sc_exec.proofs.Kept.{has_ids, kept_then}
use Rattle.sc_exec.specs.Runs.{running_of}
use Rattle.sc_micro.proofs.BlockLemmas.{noted-step}
use Rattle.sc_micro.proofs.entering.run_noted.Goals as goal

pub loop-history-preserved : goal.loop-history-preserved
loop-history-preserved c =
    let k = c.args.t.now in
    record {
      steps =
          ap (run_blocks (flat_map (kids_of k)
          (filter (λ h. parent_of k h == c.args.s) (drop (c.loop-history.history-index + 1) c.args.noted.now))))
          c.in_ok-run_default_of.ensures.ok
          ∙ noted-step k c.args.noted.now c.loop-history.history-index c.args.s
          (running_of c.loop-history.run) c.loop-history-test.true
          ∙ c.loop-history.invariant.steps;
      kept = kept_then c.args.run.now c.loop-history.run c.run_default_of.new.run c.loop-history.invariant.kept
          c.in_ok-run_default_of.ensures.kept;
      ids = has_ids c.loop-history.run c.run_default_of.new.run c.loop-history.invariant.ids
          c.in_ok-run_default_of.ensures.kept;
    }
