use Rattle.std.proofs.Common.{◌≡◌, [], drop}
use Rattle.sc_base.specs.Folds.{each}
use Rattle.sc_law.specs.Data.{initialise}
use Rattle.sc_eval.specs.Envs.{HasIds}
use Rattle.sc_exec.specs.Runs.{running_of, KeepsRows}
use Rattle.sc_exec.proofs.initial.initialise_all.Given as goal

abbrev pub invariant-loop-item : goal.invariant-loop-item
invariant-loop-item l = record {
  steps : each (initialise []) (drop l.item-index l.items) (running_of l.run)
      ≡ each (initialise []) l.items (running_of l.fn.run);
  kept : KeepsRows l.fn.run l.run;
  ids : HasIds l.run.env;
}
