use Rattle.std.proofs.Common.{ap, slice_get, sym, ◌∙◌}
use Rattle.sc_core.specs.Bodies.{image}
use Rattle.sc_core.proofs.ReadyLemmas.{none_ready, session_names, some_ready}
use Rattle.sc_core.proofs.host_state.HostState.ready_session.Goals as goal

pub returns-in-None : goal.returns-in-None
returns-in-None g c = rw (← c.self.view_is) (none_ready (image c.self.inside.body) (sym c.in-None.is ∙ c.ready.ensures))

pub returns-in-Some : goal.returns-in-Some
returns-in-Some g c =
    let body = c.self.inside.body in
    let place = c.in-Some.place in
    rw (← c.self.view_is)
    (c.name.ensures.value
    ∙ ap (λ ns. slice_get ns place) (c.self.invariant.agrees.sessions ∙ session_names body.sessions.items)
    ∙ some_ready (image body) place (sym c.in-Some.is ∙ c.ready.ensures))
