use Rattle.std.proofs.Common.{◌≤◌, ◌-◌, ◌^◌, length, subst, sym, arith}
use Rattle.sc_types.specs.declared.host.HostImage.{HostImage}
use Rattle.sc_core.specs.Bodies.{image}
use Rattle.sc_machine.specs.Commands.{answer}
use Rattle.sc_core.specs.HostStates.{CanMake, HostOf}
use Rattle.sc_core.specs.Preparing.{Prepares}
use Rattle.sc_core.proofs.NextLemmas.{prepared_makes}
use Rattle.sc_core.proofs.host_state.HostState.prepare.Goals as goal

pub make_room-requires-clause-can : goal.make_room-requires-clause-can
make_room-requires-clause-can g c =
    let chart_of = g.E.Engine.chart_of in
    let p = c.in_ok-prepared.prepared in
    let h = image c.self.inside.body in
    let few : length p.sent ≤ 2 ^ 64 - 1 = omega (arith, c.len-count.ensures, c.len-count.type_inv) in
    λ κs within.
    subst (λ (k : HostImage). CanMake chart_of k p.changes) (sym c.in_ok-prepared.ensures.keeps.image)
    (prepared_makes chart_of h c.args.command.now p c.self.invariant.sound c.in_ok-prepared.ensures.answer
    c.in_ok-prepared.ensures.plans c.in_ok-prepared.ensures.fits few)

pub returns-clause-answer : goal.returns-clause-answer
returns-clause-answer g c =
    let command = c.args.command.now in
    subst (λ (h : HostOf). Prepares (answer h.image command) h.image c.in_ok-prepared.prepared) c.self.view_is
    c.in_ok-prepared.ensures.answer
