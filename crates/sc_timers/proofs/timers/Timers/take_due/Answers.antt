use Rattle.std.proofs.Common.{refl}
use Rattle.sc_timers.proofs.SendLemmas.{none-due}
use Rattle.sc_timers.proofs.timers.Timers.take_due.Goals as goal

pub returns-then-branch-clause-none : goal.returns-then-branch-clause-none
returns-then-branch-clause-none c = (
  none-due c.args.now c.in_ok-get.field-0.now c.args.self.now.sends c.get.ensures.order c.in_ok-get.ensures.value
      c.if-branch.true,
  refl,
)
