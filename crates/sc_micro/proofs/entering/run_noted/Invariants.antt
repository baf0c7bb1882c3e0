use Rattle.std.proofs.Common.{◌≡◌, ◌==◌, drop, filter, flat_map}
use Rattle.sc_law.specs.Configurations.{parent_of}
use Rattle.sc_law.specs.Content.{run_blocks}
use Rattle.sc_law.specs.Tree.{kids_of}
use Rattle.sc_eval.specs.Envs.{HasIds}
use Rattle.sc_exec.specs.Runs.{running_of, KeepsRows}
use Rattle.sc_micro.proofs.entering.run_noted.Given as goal

abbrev pub invariant-loop-history : goal.invariant-loop-history
invariant-loop-history l = record {
  steps :
      run_blocks (flat_map (kids_of l.t) (filter (λ h. parent_of l.t h == l.s) (drop l.history-index l.noted)))
      (running_of l.run)
      ≡ run_blocks (flat_map (kids_of l.t) (filter (λ h. parent_of l.t h == l.s) l.noted)) (running_of l.fn.run);
  kept : KeepsRows l.fn.run l.run;
  ids : HasIds l.run.env;
}
