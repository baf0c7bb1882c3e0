use Rattle.std.proofs.Common.{◌≡◌, drop}
use Rattle.sc_base.specs.Folds.{each}
use Rattle.sc_law.specs.Data.{declare_datum}
use Rattle.sc_law.specs.Nodes.{element}
use Rattle.sc_exec.specs.Initial.{data_among}
use Rattle.sc_exec.specs.Runs.{running_of, KeepsRows}
use Rattle.sc_exec.proofs.initial.declare_all.Given as goal

abbrev pub invariant-loop-path : goal.invariant-loop-path
invariant-loop-path l = record {
  steps : each (λ path. declare_datum (element l.chart path)) (data_among l.chart (drop l.path-index l.paths)) (running_of l.run)
      ≡ each (λ path. declare_datum (element l.chart path)) (data_among l.chart l.paths) (running_of l.fn.run);
  kept : KeepsRows l.fn.run l.run;
}
