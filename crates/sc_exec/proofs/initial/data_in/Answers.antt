use Rattle.std.proofs.Common.{◌+◌, [], drop, ap, sym, ◌∙◌}
use Rattle.sc_base.specs.Folds.{each}
use Rattle.sc_law.specs.Data.{initialise}
use Rattle.sc_exec.specs.Initial.{data_in}
use Rattle.sc_exec.specs.Runs.{running_of}
use Rattle.sc_exec.proofs.Kept.{has_ids, kept_then}
use Rattle.sc_exec.proofs.Steps.{data_step}
use Rattle.sc_exec.proofs.initial.data_in.Goals as goal

pub loop-kid-preserved : goal.loop-kid-preserved
loop-kid-preserved c = record {
  steps =
      ap (each (initialise []) (data_in (drop (c.loop-kid.kid-index + 1) c.args.kids.now))) c.in_ok-model_data.ensures.ok
      ∙ sym (data_step c.args.kids.now c.loop-kid.kid-index c.kid-item.result (running_of c.loop-kid.run) c.loop-kid-test.true c.kid-item.is)
      ∙ c.loop-kid.invariant.steps;
  kept = kept_then c.args.run.now c.loop-kid.run c.model_data.new.run c.loop-kid.invariant.kept c.in_ok-model_data.ensures.kept;
  ids = has_ids c.loop-kid.run c.model_data.new.run c.loop-kid.invariant.ids c.in_ok-model_data.ensures.kept;
}
