use Rattle.std.proofs.Common.{false, true, ◌∙◌}
use Rattle.sc_core.specs.Bodies.{image, session_image}
use Rattle.sc_core.proofs.BirthLemmas.{live_born, live_found_there}
use Rattle.sc_core.proofs.body.Body.live_place.Goals as goal

pub returns-in_default : goal.returns-in_default
returns-in_default g c = λ h grown.
    let a = c.args in
    c.birth_place.ensures
    ∙ live_born (image a.self.now) a.place a.state.now a.name.now a.births.now h c.requires.there c.in_default.ensures.value grown

pub returns-then-not-takes_events : goal.returns-then-not-takes_events
returns-then-not-takes_events g c = λ h grown.
    let a = c.args in
    let s = session_image c.in-Some.session.now in
    live_found_there (image a.self.now) a.place a.state.now a.name.now a.births.now h (c.in-Some.found, s) false c.requires.there
    c.in-Some.ensures.value c.if-not-takes_events.ensures grown

pub returns : goal.returns
returns g c = λ h grown.
    let a = c.args in
    let s = session_image c.in-Some.session.now in
    live_found_there (image a.self.now) a.place a.state.now a.name.now a.births.now h (c.in-Some.found, s) true c.requires.there
    c.in-Some.ensures.value c.if-not-takes_events.ensures grown
