use Rattle.std.proofs.Common.{◌||◌, is_some, ap, sym, ◌∙◌}
use Rattle.sc_core.specs.Bodies.{image}
use Rattle.sc_core.specs.Births.{birth_place}
use Rattle.sc_core.proofs.BirthLemmas.{taken_is}
use Rattle.sc_core.proofs.body.Body.is_taken.Goals as goal

pub returns-then-is_some : goal.returns-then-is_some
returns-then-is_some g c = λ state place h there grown.
    let a = c.args in
    let here = sym (ap is_some c.session_place.ensures) ∙ sym c.is_some.ensures in
    c.if-is_some.true
    ∙ ap (λ b. b || is_some (birth_place a.births.now a.name.now)) (sym (here ∙ c.if-is_some.true))
    ∙ taken_is (image a.self.now) place state a.name.now a.births.now h there grown

pub returns-else-is_some : goal.returns-else-is_some
returns-else-is_some g c = λ state place h there grown.
    let a = c.args in
    let here = sym (ap is_some c.session_place.ensures) ∙ sym c.is_some.ensures in
    c.is_some-else-is_some.ensures ∙ ap is_some c.birth_place.ensures
    ∙ ap (λ b. b || is_some (birth_place a.births.now a.name.now)) (sym (here ∙ c.if-is_some.false))
    ∙ taken_is (image a.self.now) place state a.name.now a.births.now h there grown
