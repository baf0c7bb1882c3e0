use Rattle.std.proofs.Common.{subst}
use Rattle.sc_law.specs.Fitting.{FitsRun}
use Rattle.sc_select.specs.Runs.{run_state}
use Rattle.sc_law_theorems.proofs.Fitting.{microstep-leaves}
use Rattle.sc_micro.proofs.step.microstep.Goals as goal

pub returns-clause-fits : goal.returns-clause-fits
returns-clause-fits c =
    λ kept fits. subst (FitsRun c.args.t.now) c.in_ok-take.ensures.ok
    (microstep-leaves c.args.t.now c.args.trs.now (run_state c.args.run.now c.args.h.now) kept.legal fits kept)
