use Rattle.std.proofs.Common.{ℕ, ◌≡◌, ◌<◌, ◌+◌, ◌++◌, [], ◌∷◌, is_some, length, ap, refl, sym, arith, ◌∙◌}
use Rattle.sc_rooms.specs.Rooms.{RoomyOf}
use Rattle.sc_types.specs.declared.event.Event.{Event}
use Rattle.sc_core.specs.Bodies.{image, marked, session_image}
use Rattle.sc_core.specs.Changes.{numbered}
use Rattle.sc_machine.specs.Cues.{cue_in, is_ready}
use Rattle.sc_machine.specs.Deliveries.{queue}
use Rattle.sc_machine.specs.Hosts.{with_session}
use Rattle.sc_core.proofs.BodyLemmas.{cued_on}
use Rattle.sc_core.proofs.SetLemmas.{set_session, stays_marked}
use Rattle.sc_core.proofs.body.Body.queue.Goals as goal

given : (e : Event) (n : ℕ) → e.number ≡ n → numbered n e ≡ e
given e n is = ap (λ i. numbered i e) (sym is)

pub returns-clause-makes : goal.returns-clause-makes
returns-clause-makes g c =
    let h = c.args.self.now in
    let s = c.item_mut-session.result.now in
    set_session h c.args.place s _ _ (h.events + 1) h.timers (λ s. queue (image h) c.args.place s c.args.event)
    c.requires.agrees c.item_mut-session.ensures.value refl (omega (arith, ap (λ (q : RoomyOf Event). q.spare) c.push.ensures))
    (omega arith) (c.mark.ensures.places ∙ ap (λ b. marked b c.args.place h.ready.places) c.is_ready.ensures)
    c.mark.ensures.room (omega arith) refl refl (rw c.push.ensures (ap (λ (e : Event). record (with_session (image h) c.args.place
    (record (session_image s) { queued = s.queued.items ++ e ∷ [] })) { events = h.events + 1 }) (given c.args.event (h.events + 1) c.requires.number)))

pub returns-then-before-gt0-clause-makes : goal.returns-then-before-gt0-clause-makes
returns-then-before-gt0-clause-makes g c =
    let h = c.args.self.now in
    let s = c.item_mut-session.result.now in
    let w = record s { queued = c.push.new.self } in
    let some : 0 < length s.queued.items = omega (arith, c.if-before-gt0.true, c.len-before.ensures) in
    let same : is_ready (session_image w) ≡ is_ready (session_image s) =
    ap (λ (q : RoomyOf Event). is_some (cue_in s.state.phase (s.state.internal ++ s.failures.items) s.flagged q.items))
    c.push.ensures ∙ cued_on s.state.phase (s.state.internal ++ s.failures.items) s.flagged s.queued.items _ some in
    set_session h c.args.place s w h.ready (h.events + 1) h.timers (λ s. queue (image h) c.args.place s c.args.event)
    c.requires.agrees c.item_mut-session.ensures.value refl (omega (arith, ap (λ (q : RoomyOf Event). q.spare) c.push.ensures))
    (omega arith) (sym (stays_marked h c.args.place s _ _ c.requires.agrees c.item_mut-session.ensures.value same refl))
    (omega arith) (omega arith) refl refl (rw c.push.ensures (ap (λ (e : Event). record (with_session (image h) c.args.place
    (record (session_image s) { queued = s.queued.items ++ e ∷ [] })) { events = h.events + 1 }) (given c.args.event (h.events + 1) c.requires.number)))
