use Rattle.std.proofs.Common.{◌≡◌, ◌-◌}
use Rattle.sc_base.specs.Folds.{each}
use Rattle.sc_law.specs.Invokes.{finalize_in}
use Rattle.sc_exec.specs.Runs.{KeepsRows, running_of}
use Rattle.sc_select.specs.Runs.{IsRunOf}
use Rattle.sc_sets.proofs.Members.{from_on}
use Rattle.sc_turn.proofs.finalizing.finalize.Given as goal

abbrev pub invariant-loop-s : goal.invariant-loop-s
invariant-loop-s l = record {
  rest : each (finalize_in l.t l.event) (from_on l.from l.run.env.configuration.members) (running_of l.run)
      ≡ each (finalize_in l.t l.event) l.fn.run.env.configuration.members (running_of l.fn.run);
  kept : KeepsRows l.fn.run l.run;
  run : IsRunOf l.t l.run;
}

abbrev pub decreases-loop-s : goal.decreases-loop-s
decreases-loop-s l = l.run.env.configuration.width - l.from
