use Rattle.std.proofs.Common.{option_map, ap, refl, arith, ◌∙◌}
use Rattle.sc_types.specs.declared.host.InvokerImage.{InvokerImage}
use Rattle.sc_core.specs.Bodies.{image, marked}
use Rattle.sc_machine.specs.Deliveries.{cut_off}
use Rattle.sc_machine.specs.Hosts.{with_session}
use Rattle.sc_core.proofs.SetLemmas.{cut_invited, set_session}
use Rattle.sc_core.proofs.body.Body.cut_off.Goals as goal

pub returns-clause-makes : goal.returns-clause-makes
returns-clause-makes g c =
    let h = c.args.self.now in
    let s = c.item_mut-session.result.now in
    set_session h c.args.place s _ _ h.events h.timers (λ s. with_session (image h) c.args.place (cut_off s))
    c.requires.agrees c.item_mut-session.ensures.value refl (omega arith) (omega arith)
    (c.mark.ensures.places ∙ ap (λ b. marked b c.args.place h.ready.places) c.is_ready.ensures)
    c.mark.ensures.room (omega arith)
    (ap (option_map (λ (i : InvokerImage). i.session)) c.cut.ensures ∙ cut_invited s.invoker) refl (rw c.cut.ensures refl)
