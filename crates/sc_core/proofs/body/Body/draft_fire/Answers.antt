use Rattle.std.proofs.Common.{ap, refl, sym, ◌∙◌}
use Rattle.sc_types.specs.declared.session.SessionState.{SessionState}
use Rattle.sc_core.specs.Bodies.{session_image}
use Rattle.sc_core.specs.Ticking.{fired_failed}
use Rattle.sc_core.proofs.RoomLemmas.{on_ok}
use Rattle.sc_core.proofs.TickLemmas.{adds_same, aim_held, fired_fails, fired_reaches}
use Rattle.sc_core.proofs.body.Body.draft_fire.Goals as goal

pub returns-in-Reaches : goal.returns-in-Reaches
returns-in-Reaches g c =
    let s = c.in-Some.sender.now in
    let d = c.args.draft.now in
    on_ok c.reach.result _ _ c.reach.ensures
    (adds_same _ _ d c.reach.new.self (fired_reaches c.args.self.now d.events c.args.send.now c.in-Some.place s
    c.aim.result c.in-Reaches.to c.name_at.result.now c.in-Some.ensures.value c.in-Some.ensures.at
    (aim_held c.args.self.now c.args.send.now c.in-Some.place s c.state.result.now c.aim.result c.state.ensures
    (λ named. c.aim.ensures.aim (session_image s) named refl)) c.in-Reaches.is c.name_at.ensures))

pub returns-in-Fails : goal.returns-in-Fails
returns-in-Fails g c =
    let s = c.in-Some.sender.now in
    let d = c.args.draft.now in
    on_ok c.fail.result _ _ c.fail.ensures
    (adds_same _ _ d c.fail.new.self (fired_fails c.args.self.now d.events c.args.send.now c.in-Some.place s
    c.aim.result c.in-Some.ensures.value c.in-Some.ensures.at
    (aim_held c.args.self.now c.args.send.now c.in-Some.place s c.state.result.now c.aim.result c.state.ensures
    (λ named. c.aim.ensures.aim (session_image s) named refl)) c.in-Fails.is
    ∙ ap (λ (x : SessionState). fired_failed d.events c.in-Some.place x.phase c.args.send.now.event.sendid)
    (sym c.state-in-Fails.ensures)))
