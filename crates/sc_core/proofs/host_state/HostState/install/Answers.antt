use Rattle.std.proofs.Common.{length, subst, sym}
use Rattle.sc_core.specs.HostStates.{CanInstall, HostOf}
use Rattle.sc_core.proofs.HeldLemmas.{have_room, held_after}
use Rattle.sc_core.proofs.host_state.HostState.install.Goals as goal

pub install-requires-clause-room : goal.install-requires-clause-room
install-requires-clause-room g c =
    let changes = c.args.prepared.now.changes in
    let can = subst (λ (h : HostOf). CanInstall g.E.Engine.chart_of h changes) (sym c.self.view_is) c.requires.can in
    have_room (length changes) c.self.inside.body changes can.room

pub invariant_of-self : goal.invariant_of-self
invariant_of-self g c =
    let changes = c.args.prepared.now.changes in
    let can = subst (λ (h : HostOf). CanInstall g.E.Engine.chart_of h changes) (sym c.self.view_is) c.requires.can in
    held_after g.E.Engine.chart_of c.self.inside.body c.install.new.self changes c.self.invariant can c.install.ensures.agrees
    c.install.ensures.image c.install.ensures.charts
