use Rattle.std.proofs.Common.{◌≡◌, drop}
use Rattle.sc_base.specs.Folds.{each}
use Rattle.sc_law.specs.Microstep.{run_content}
use Rattle.sc_eval.specs.Envs.{HasIds}
use Rattle.sc_exec.specs.Runs.{running_of, KeepsRows}
use Rattle.sc_micro.proofs.step.run_contents.Given as goal

abbrev pub invariant-loop-tr : goal.invariant-loop-tr
invariant-loop-tr l = record {
  steps : each (run_content l.t) (drop l.tr-index l.trs) (running_of l.run)
      ≡ each (run_content l.t) l.trs (running_of l.fn.run);
  kept : KeepsRows l.fn.run l.run;
  ids : HasIds l.run.env;
}
