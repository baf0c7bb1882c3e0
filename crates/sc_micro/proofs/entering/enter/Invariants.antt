use Rattle.std.proofs.Common.{◌≡◌, ◌-◌}
use Rattle.sc_base.specs.Folds.{each}
use Rattle.sc_law.specs.Entering.{enter_state}
use Rattle.sc_exec.specs.Runs.{running_of}
use Rattle.sc_sets.proofs.Members.{from_on}
use Rattle.sc_sets.specs.Triples.{triple_of}
use Rattle.sc_select.specs.Runs.{IsRunOf}
use Rattle.sc_micro.proofs.entering.enter.Given as goal

abbrev pub invariant-loop-s : goal.invariant-loop-s
invariant-loop-s l = record {
  steps : each (enter_state l.t (triple_of l.e)) (from_on l.from l.e.states.members) (running_of l.run)
      ≡ each (enter_state l.t (triple_of l.e)) l.e.states.members (running_of l.fn.run);
  run : IsRunOf l.t l.run;
}

abbrev pub decreases-loop-s : goal.decreases-loop-s
decreases-loop-s l = l.e.states.width - l.from
