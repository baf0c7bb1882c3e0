use Rattle.std.proofs.Common.{◌≡◌, ap, slice_get, subst, ◌∙◌}
use Rattle.sc_types.specs.declared.host.HostImage.{HostImage}
use Rattle.sc_core.specs.Bodies.{image}
use Rattle.sc_core.specs.HostStates.{HostOf}
use Rattle.sc_core.specs.Inputs.{IsInput}
use Rattle.sc_core.proofs.host_state.HostState.turn_input.Goals as goal

pub returns-clause-input : goal.returns-clause-input
returns-clause-input g c = λ s there.
    let same : image c.settle.new.self ≡ c.args.self.now.image =
    c.settle.ensures.keeps.image ∙ ap (λ (h : HostOf). h.image) c.self.view_is in
    subst (λ (h : HostImage). IsInput g.E.Engine.chart_of h s c.in_ok-input.input) same
    (c.in_ok-input.ensures s (ap (λ (h : HostImage). slice_get h.sessions c.args.place) same ∙ there))
