use Rattle.std.proofs.Common.{ap, refl, arith, ◌∙◌}
use Rattle.sc_core.specs.Bodies.{image, marked}
use Rattle.sc_machine.specs.Deliveries.{without_invoke}
use Rattle.sc_machine.specs.Hosts.{with_session}
use Rattle.sc_core.proofs.SetLemmas.{set_session}
use Rattle.sc_core.proofs.body.Body.drop_invoke.Goals as goal

pub returns-clause-makes : goal.returns-clause-makes
returns-clause-makes g c =
    let h = c.args.self.now in
    let s = c.item_mut-session.result.now in
    set_session h c.args.place s _ _ h.events h.timers
    (λ s. with_session (image h) c.args.place (without_invoke c.args.child.now s))
    c.requires.agrees c.item_mut-session.ensures.value (rw (c.drop_child.ensures, c.get_mut.ensures.value) refl)
    (omega arith) (omega arith)
    (c.mark.ensures.places ∙ ap (λ b. marked b c.args.place h.ready.places) c.is_ready.ensures)
    c.mark.ensures.room (omega arith) refl refl (rw (c.drop_child.ensures, c.get_mut.ensures.value) refl)
