use Rattle.std.proofs.Common.{sym, ◌∙◌}
use Rattle.slab.specs.Slab.{get as send_at}
use Rattle.sc_timers.specs.Order.{by_due}
use Rattle.sc_timers.proofs.SendLemmas.{length-sends}
use Rattle.sc_timers.proofs.timers.Timers.len.Goals as goal

pub returns : goal.returns
returns c =
    let kept = c.self.inside.kept in
    rw (← c.self.view_is)
    (c.len.ensures ∙ sym (length-sends by_due (send_at kept.sends) kept.due.entries c.self.invariant.0.due))
