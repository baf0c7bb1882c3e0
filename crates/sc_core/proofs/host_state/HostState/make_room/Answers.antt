use Rattle.std.proofs.Common.{subst, sym}
use Rattle.sc_core.specs.HostStates.{CanMake, HostOf}
use Rattle.sc_core.proofs.HeldLemmas.{can_install}
use Rattle.sc_core.proofs.host_state.HostState.make_room.Goals as goal

pub returns-clause-can : goal.returns-clause-can
returns-clause-can g c =
    let changes = c.args.prepared.now.changes in
    let can = subst (λ (h : HostOf). CanMake g.E.Engine.chart_of h.image changes) (sym c.self.view_is) c.requires.can in
    can_install g.E.Engine.chart_of c.self.inside.body c.make_room.new.self changes c.in_ok-make_room.ensures.keeps can
    c.in_ok-make_room.ensures.ready c.in_ok-make_room.ensures.room
