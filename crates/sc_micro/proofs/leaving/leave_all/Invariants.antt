use Rattle.std.proofs.Common.{◌≡◌, ◌<◌, All, length}
use Rattle.sc_law.specs.Leaving.{leave_all}
use Rattle.sc_law.specs.Tree.{state_count}
use Rattle.sc_exec.specs.Runs.{running_of}
use Rattle.sc_select.specs.Runs.{IsRunOf}
use Rattle.sc_micro.proofs.leaving.leave_all.Given as goal

abbrev pub invariant-loop-s : goal.invariant-loop-s
invariant-loop-s l = record {
  steps : leave_all l.t l.left (running_of l.run) ≡ leave_all l.t l.fn.states (running_of l.fn.run);
  within : All (λ s. s < state_count l.t) l.left;
  run : IsRunOf l.t l.run;
}

abbrev pub decreases-loop-s : goal.decreases-loop-s
decreases-loop-s l = length l.left
