use Rattle.std.proofs.Common.{◌∷◌, ◌++◌, [], ap, refl, arith, ◌∙◌}
use Rattle.sc_rooms.specs.Rooms.{RoomyOf}
use Rattle.sc_types.specs.declared.event.Event.{Event}
use Rattle.sc_core.specs.Bodies.{image, marked, session_image}
use Rattle.sc_machine.specs.Hosts.{with_session}
use Rattle.sc_core.proofs.SetLemmas.{append_more, set_session}
use Rattle.sc_core.proofs.body.Body.tell.Goals as goal

pub returns-clause-makes : goal.returns-clause-makes
returns-clause-makes g c =
    let h = c.args.self.now in
    let s = c.item_mut-session.result.now in
    set_session h c.args.place s _ _ h.events h.timers
    (λ s. with_session (image h) c.args.place (record s { state = record s.state { internal = s.state.internal ++ c.args.event ∷ [] } }))
    c.requires.agrees c.item_mut-session.ensures.value refl (omega arith)
    (omega (arith, ap (λ (q : RoomyOf Event). q.spare) c.push.ensures)) (c.mark.ensures.places ∙ ap (λ b. marked b c.args.place h.ready.places) c.is_ready.ensures)
    c.mark.ensures.room (omega arith) refl refl
    (rw c.push.ensures (ap
    (λ es. with_session (image h) c.args.place (record (session_image s) { state = record s.state { internal = es } }))
    (append_more s.state.internal s.failures.items (c.args.event ∷ []))))
