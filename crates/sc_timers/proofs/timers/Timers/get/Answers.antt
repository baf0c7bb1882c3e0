use Rattle.std.proofs.Common.{sym, ◌∙◌}
use Rattle.slab.specs.Slab.{get as send_at}
use Rattle.sc_timers.specs.Order.{by_due}
use Rattle.sc_timers.proofs.SendLemmas.{slice_get-sends, slice_get-none, due-order}
use Rattle.sc_timers.proofs.timers.Timers.get.Goals as goal

pub returns-in-Some-clause-value : goal.returns-in-Some-clause-value
returns-in-Some-clause-value c =
    let kept = c.self.inside.kept in
    rw (← c.self.view_is)
    (c.get-in-Some.ensures ∙ sym (slice_get-sends by_due (send_at kept.sends) kept.due.entries c.args.place
    c.in-Some.entry
    c.self.invariant.0.due (sym c.in-Some.ensures)))

pub returns-in-Some-clause-order : goal.returns-in-Some-clause-order
returns-in-Some-clause-order c =
    let kept = c.self.inside.kept in
    rw (← c.self.view_is)
    (due-order (send_at kept.sends) kept.due.entries c.self.invariant.0.due c.self.invariant.0.due_rising)

pub returns-in-None-clause-value : goal.returns-in-None-clause-value
returns-in-None-clause-value c =
    let kept = c.self.inside.kept in
    rw (← c.self.view_is)
    (sym (slice_get-none by_due (send_at kept.sends) kept.due.entries c.args.place c.self.invariant.0.due
    (sym c.in-None.ensures)))

pub returns-in-None-clause-order : goal.returns-in-None-clause-order
returns-in-None-clause-order c =
    let kept = c.self.inside.kept in
    rw (← c.self.view_is)
    (due-order (send_at kept.sends) kept.due.entries c.self.invariant.0.due c.self.invariant.0.due_rising)
