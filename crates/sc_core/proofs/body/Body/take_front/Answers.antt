use Rattle.std.proofs.Common.{drop, ap, refl, arith, ◌∙◌}
use Rattle.sc_core.specs.Bodies.{image, marked, session_image}
use Rattle.sc_machine.specs.Hosts.{with_session}
use Rattle.sc_core.proofs.SetLemmas.{rest_is, set_session, stays_marked}
use Rattle.sc_core.proofs.body.Body.take_front.Goals as goal

pub returns-clause-makes : goal.returns-clause-makes
returns-clause-makes g c =
    let h = c.args.self.now in
    let s = c.item_mut-session.result.now in
    set_session h c.args.place s _ _ h.events h.timers
    (λ s. with_session (image h) c.args.place (record s { queued = drop 1 s.queued }))
    c.requires.agrees c.item_mut-session.ensures.value refl (omega (arith, c.pop_front.ensures.spare)) (omega arith) (c.mark_anew.ensures.places ∙ ap (λ b. marked b c.args.place h.ready.places) c.is_ready.ensures)
    c.mark_anew.ensures.room (omega arith) refl refl
    (ap (λ es. with_session (image h) c.args.place (record (session_image s) { queued = es }))
    (rest_is _ s.queued.items _ c.pop_front.ensures.items))

pub mark_anew-requires-clause-same : goal.mark_anew-requires-clause-same
mark_anew-requires-clause-same g c = λ same.
    stays_marked c.args.self.now c.args.place c.item_mut-session.result.now _ _ c.requires.agrees
    c.item_mut-session.ensures.value c.is_ready-was.ensures same
