use Rattle.std.proofs.Common.{◌≡◌, ◌<◌, IfSome, [], ◌∷◌, flat_map, option_copied}
use Rattle.std.specs.Option.{option_map_or}
use Rattle.sc_law.specs.Selection.{candidates, first_enabled}
use Rattle.sc_law.specs.Transitions.{transitions_of}
use Rattle.sc_law.specs.Tree.{ancestors, state_count}
use Rattle.sc_eval.specs.Envs.{HasIds}
use Rattle.sc_exec.specs.Runs.{running_of, KeepsRows}
use Rattle.sc_sets.proofs.Climbing.{left}
use Rattle.sc_select.proofs.enabled.first_enabled.Given as goal

abbrev pub invariant-loop-next : goal.invariant-loop-next
invariant-loop-next l = record {
  within : IfSome l.next (λ p. p < state_count l.t);
  steps : first_enabled l.t (option_copied l.event)
      (flat_map (transitions_of l.t) (option_map_or (λ p. p ∷ ancestors l.t p) l.next [])) (running_of l.run)
      ≡ first_enabled l.t (option_copied l.event) (candidates l.t l.s) (running_of l.fn.run);
  kept : KeepsRows l.fn.run l.run;
  ids : HasIds l.run.env;
}

abbrev pub decreases-loop-next : goal.decreases-loop-next
decreases-loop-next l = left l.next
