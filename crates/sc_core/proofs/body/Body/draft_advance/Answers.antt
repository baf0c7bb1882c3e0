use Rattle.std.proofs.Common.{◌+◌, ◌^◌, ◌<◌, ap, arith, drop, filter, slice_get, sym, ◌∙◌}
use Rattle.sc_core.specs.Bodies.{image}
use Rattle.sc_machine.specs.Deliveries.{is_due}
use Rattle.sc_core.proofs.TickLemmas.{plain_ok, tick_more, tick_ok}
use Rattle.sc_core.proofs.body.Body.draft_advance.Goals as goal

pub loop-send-preserved : goal.loop-send-preserved
loop-send-preserved g c =
    let h = c.args.self.now in
    let d = c.loop-send.draft in
    let so = c.loop-send.invariant in
    let less : d.events + 1 < 2 ^ 128 = omega (arith, c.requires.events, so.numbers, c.len.ensures, c.len.type_inv) in
    tick_more (image h) c.args.now d c.draft_fire.new.draft c.in-Some.send.now
    (ap (slice_get h.timers.sends) (sym c.len.ensures) ∙ c.in-Some.ensures.0) c.in-Some.ensures.1 less
    c.in_ok-draft_fire.ensures so

pub returns-clause-prepares : goal.returns-clause-prepares
returns-clause-prepares g c =
    let h = c.args.self.now in
    tick_ok (image h) c.args.now c.loop-send.draft c.finish.result c.requires.commands c.loop-send.invariant
    (ap (λ n. filter (is_due c.args.now) (drop n h.timers.sends)) (sym c.len.ensures) ∙ c.in_default.ensures)
    c.finish.ensures.changes c.finish.ensures.reply c.finish.ensures.logs c.finish.ensures.sent

pub returns-clause-plans : goal.returns-clause-plans
returns-clause-plans g c =
    plain_ok (image c.args.self.now) c.args.now c.loop-send.draft c.finish.result c.loop-send.invariant
    c.finish.ensures.changes
