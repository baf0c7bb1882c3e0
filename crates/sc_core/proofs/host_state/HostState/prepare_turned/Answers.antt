use Rattle.std.proofs.Common.{◌≤◌, ◌-◌, ◌^◌, length, subst, sym, arith}
use Rattle.sc_types.specs.declared.command.Command.TheVariants.{Step}
use Rattle.sc_types.specs.declared.host.HostImage.{HostImage}
use Rattle.sc_core.specs.Bodies.{image}
use Rattle.sc_machine.specs.Commands.{answer, step}
use Rattle.sc_machine.specs.Hosts.{session_named}
use Rattle.sc_core.specs.HostStates.{CanMake, HostOf}
use Rattle.sc_core.specs.Preparing.{Prepares}
use Rattle.sc_core.proofs.NextLemmas.{answer_step, prepared_makes, prepares_as}
use Rattle.sc_core.proofs.host_state.HostState.prepare_turned.Goals as goal

pub make_room-requires-clause-can : goal.make_room-requires-clause-can
make_room-requires-clause-can g c =
    let chart_of = g.E.Engine.chart_of in
    let p = c.in_ok-prepared.prepared in
    let h = image c.self.inside.body in
    let name = c.args.session.now in
    let few : length p.sent ≤ 2 ^ 64 - 1 = omega (arith, c.len-count.ensures, c.len-count.type_inv) in
    let answered = prepares_as h (step h (session_named h name)) (answer h (Step name)) p (answer_step h name)
    c.in_ok-prepared.ensures.step in
    λ κs within.
    subst (λ (k : HostImage). CanMake chart_of k p.changes) (sym c.in_ok-prepared.ensures.keeps.image)
    (prepared_makes chart_of h (Step name) p c.self.invariant.sound answered
    (c.in_ok-prepared.ensures.none chart_of) c.in_ok-prepared.ensures.fits few)

pub returns-clause-answer : goal.returns-clause-answer
returns-clause-answer g c =
    let h = image c.self.inside.body in
    let name = c.args.session.now in
    let p = c.in_ok-prepared.prepared in
    subst (λ (h : HostOf). Prepares (answer h.image (Step name)) h.image p) c.self.view_is
    (prepares_as h (step h (session_named h name)) (answer h (Step name)) p (answer_step h name) c.in_ok-prepared.ensures.step)
