use Rattle.std.proofs.Common.{◌≡◌, drop}
use Rattle.sc_base.specs.Folds.{each}
use Rattle.sc_law.specs.Data.{begin_datum}
use Rattle.sc_eval.specs.Envs.{HasIds}
use Rattle.sc_exec.specs.Initial.{data_among}
use Rattle.sc_exec.specs.Runs.{running_of, KeepsRows}
use Rattle.sc_exec.proofs.initial.begin_all.Given as goal

abbrev pub invariant-loop-path : goal.invariant-loop-path
invariant-loop-path l = record {
  steps : each (begin_datum l.chart l.params) (data_among l.chart (drop l.path-index l.paths)) (running_of l.run)
      ≡ each (begin_datum l.chart l.params) (data_among l.chart l.paths) (running_of l.fn.run);
  kept : KeepsRows l.fn.run l.run;
  ids : HasIds l.run.env;
}
