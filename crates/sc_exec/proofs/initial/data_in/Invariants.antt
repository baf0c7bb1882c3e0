use Rattle.std.proofs.Common.{◌≡◌, [], drop}
use Rattle.sc_base.specs.Folds.{each}
use Rattle.sc_law.specs.Data.{initialise}
use Rattle.sc_eval.specs.Envs.{HasIds}
use Rattle.sc_exec.specs.Initial.{data_in}
use Rattle.sc_exec.specs.Runs.{running_of, KeepsRows}
use Rattle.sc_exec.proofs.initial.data_in.Given as goal

abbrev pub invariant-loop-kid : goal.invariant-loop-kid
invariant-loop-kid l = record {
  steps : each (initialise []) (data_in (drop l.kid-index l.kids)) (running_of l.run)
      ≡ each (initialise []) (data_in l.kids) (running_of l.fn.run);
  kept : KeepsRows l.fn.run l.run;
  ids : HasIds l.run.env;
}
