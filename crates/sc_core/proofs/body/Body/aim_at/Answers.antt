use Rattle.std.proofs.Common.{false, true, ap, sym, ◌∙◌}
use Rattle.sc_core.specs.Bodies.{image, session_image}
use Rattle.sc_core.proofs.AimLemmas.{aim_put, aim_put_found, aim_seen}
use Rattle.sc_core.proofs.body.Body.aim_at.Goals as goal

pub returns-in_default-clause-aim : goal.returns-in_default-clause-aim
returns-in_default-clause-aim g c =
    let a = c.args in
    ap (aim_seen a.place a.state.now.phase) c.in_default.ensures.value
    ∙ sym (aim_put (image a.self.now) a.place a.state.now a.name.now c.requires.there)

pub returns-then-not-takes_events-clause-aim : goal.returns-then-not-takes_events-clause-aim
returns-then-not-takes_events-clause-aim g c =
    let a = c.args in
    let s = session_image c.in-Some.session.now in
    aim_put_found (image a.self.now) a.place a.state.now a.name.now (c.in-Some.found, s) false c.requires.there
    c.in-Some.ensures.value c.if-not-takes_events.ensures

pub returns-clause-aim : goal.returns-clause-aim
returns-clause-aim g c =
    let a = c.args in
    let s = session_image c.in-Some.session.now in
    aim_put_found (image a.self.now) a.place a.state.now a.name.now (c.in-Some.found, s) true c.requires.there
    c.in-Some.ensures.value c.if-not-takes_events.ensures
