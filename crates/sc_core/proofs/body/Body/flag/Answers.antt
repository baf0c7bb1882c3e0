use Rattle.std.proofs.Common.{true, ap, refl, sym, arith, ◌∙◌}
use Rattle.sc_core.specs.Bodies.{image, marked, session_image}
use Rattle.sc_machine.specs.Hosts.{with_session}
use Rattle.sc_core.proofs.SetLemmas.{set_session, stays_marked}
use Rattle.sc_core.proofs.body.Body.flag.Goals as goal

pub returns-clause-makes : goal.returns-clause-makes
returns-clause-makes g c =
    let h = c.args.self.now in
    let s = c.item_mut-session.result.now in
    set_session h c.args.place s _ _ h.events h.timers
    (λ s. with_session (image h) c.args.place (record s { flagged = true }))
    c.requires.agrees c.item_mut-session.ensures.value refl (omega arith) (omega arith) (c.mark.ensures.places ∙ ap (λ b. marked b c.args.place h.ready.places) c.is_ready.ensures)
    c.mark.ensures.room (omega arith) refl refl refl

pub returns-then-session-clause-makes : goal.returns-then-session-clause-makes
returns-then-session-clause-makes g c =
    let h = c.args.self.now in
    let s = c.item_mut-session.result.now in
    set_session h c.args.place s s h.ready h.events h.timers
    (λ s. with_session (image h) c.args.place (record s { flagged = true }))
    c.requires.agrees c.item_mut-session.ensures.value refl (omega arith) (omega arith)
    (sym (stays_marked h c.args.place s _ _ c.requires.agrees c.item_mut-session.ensures.value refl refl))
    (omega arith) (omega arith) refl refl
    (ap (λ f. with_session (image h) c.args.place (record (session_image s) { flagged = f })) (sym c.if-session.true))
