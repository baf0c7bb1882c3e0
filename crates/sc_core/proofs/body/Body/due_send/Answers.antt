use Rattle.std.proofs.Common.{sym}
use Rattle.sc_core.proofs.TickLemmas.{none_due, none_past}
use Rattle.sc_core.proofs.body.Body.due_send.Goals as goal

pub returns-in_default : goal.returns-in_default
returns-in_default g c =
    none_past c.args.now c.args.place c.args.self.now.timers.sends (sym c.in_default.ensures.value)

pub returns-then-send-now : goal.returns-then-send-now
returns-then-send-now g c =
    none_due c.args.now c.args.place c.in-Some.send.now c.args.self.now.timers.sends c.in-Some.ensures.order
    (sym c.in-Some.ensures.value) c.if-send-now.true
