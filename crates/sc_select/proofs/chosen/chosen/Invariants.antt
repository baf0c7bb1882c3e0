use Rattle.std.proofs.Common.{◌≡◌, ◌-◌, ◌<◌, All, [], filter, length, option_copied}
use Rattle.sc_law.specs.Kinds.{is_atomic}
use Rattle.sc_law.specs.Selection.{chosen_from}
use Rattle.sc_law.specs.Transitions.{transition_paths}
use Rattle.sc_law.specs.Tree.{state_count}
use Rattle.sc_exec.specs.Runs.{running_of, KeepsRows}
use Rattle.sc_sets.proofs.Members.{from_on}
use Rattle.sc_select.specs.Runs.{IsRunOf}
use Rattle.sc_select.proofs.chosen.chosen.Given as goal

abbrev pub invariant-loop-s : goal.invariant-loop-s
invariant-loop-s l = record {
  steps : chosen_from l.t (option_copied l.event) l.chosen
      (filter (is_atomic l.t) (from_on l.from l.fn.run.env.configuration.members)) (running_of l.run)
      ≡ chosen_from l.t (option_copied l.event) [] (filter (is_atomic l.t) l.fn.run.env.configuration.members)
      (running_of l.fn.run);
  within : All (λ tr. tr < length (transition_paths l.t)) l.chosen;
  kept : KeepsRows l.fn.run l.run;
  run : IsRunOf l.t l.run;
}

abbrev pub decreases-loop-s : goal.decreases-loop-s
decreases-loop-s l = state_count l.t - l.from
