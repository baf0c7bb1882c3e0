use Rattle.std.proofs.Common.{filter, not, [], ap, sym, refl, arith, ◌∙◌}
use Rattle.sc_types.specs.declared.session.SessionState.{SessionState}
use Rattle.sc_core.specs.Bodies.{image, marked, session_image}
use Rattle.sc_core.specs.Changes.{clear_in}
use Rattle.sc_machine.specs.Hosts.{with_session}
use Rattle.sc_types.specs.Sends.{is_of}
use Rattle.sc_core.proofs.SetLemmas.{clear_is, clear_live, clear_over, ended_at, makes_same, set_session}
use Rattle.sc_core.proofs.body.Body.end.Goals as goal

pub returns-then-not-has_ended-clause-makes : goal.returns-then-not-has_ended-clause-makes
returns-then-not-has_ended-clause-makes g c =
    let h = c.args.self.now in
    makes_same h _ c.requires.agrees (clear_live h c.args.place (sym c.if-not-has_ended.ensures))

pub returns-clause-makes : goal.returns-clause-makes
returns-clause-makes g c =
    let h = c.args.self.now in
    let s = c.item_mut-session.result.now in
    let ended = ended_at h.sessions.items c.args.place s c.item_mut-session.ensures.value (sym c.if-not-has_ended.ensures) in
    rw (clear_is (image h) c.args.place)
    (set_session h c.args.place s _ _ h.events c.discard.new.self (λ s. clear_in (image h) c.args.place s s.state.phase)
    c.requires.agrees c.item_mut-session.ensures.value refl (omega (arith, c.clear.ensures.spare)) (omega arith)
    (c.mark.ensures.places ∙ ap (λ b. marked b c.args.place h.ready.places) c.is_ready.ensures)
    c.mark.ensures.room (omega (arith, c.discard.ensures.spare)) refl refl
    (rw (c.clear.ensures.items, c.discard.ensures.sends)
    (clear_over (image h) c.args.place (session_image s) ended
    ∙ ap (λ name. record (with_session (image h) c.args.place (record (session_image s) { queued = [] })) {
      timers = filter (λ t. not (is_of name t)) h.timers.sends;
    }) (sym (c.bytes.ensures.value ∙ ap (λ (x : SessionState). x.session) c.state.ensures)))))
