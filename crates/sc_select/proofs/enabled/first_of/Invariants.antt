use Rattle.std.proofs.Common.{◌≡◌, drop, option_copied}
use Rattle.sc_law.specs.Selection.{first_enabled}
use Rattle.sc_eval.specs.Envs.{HasIds}
use Rattle.sc_exec.specs.Runs.{running_of, KeepsRows}
use Rattle.sc_select.proofs.enabled.first_of.Given as goal

abbrev pub invariant-loop-tr : goal.invariant-loop-tr
invariant-loop-tr l = record {
  steps : first_enabled l.t (option_copied l.event) (drop l.tr-index l.trs) (running_of l.run)
      ≡ first_enabled l.t (option_copied l.event) l.trs (running_of l.fn.run);
  kept : KeepsRows l.fn.run l.run;
  ids : HasIds l.run.env;
}
