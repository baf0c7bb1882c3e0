use Rattle.std.proofs.Common.{◌≡◌, ◌∙◌, ◌<◌, length, drop, ap, arith}
use Rattle.sc_journal.specs.BodiesLeft.{bodies_left, listed}
use Rattle.sc_journal.proofs.LeftLemmas.{never_none, popped, popped_are}
use Rattle.sc_journal.proofs.bodies.Bodies.pop_front.Goals as goal

pub invariant_of-self : goal.invariant_of-self
invariant_of-self c =
    let b = c.self.inside in
    let all : length (bodies_left b.left b.number b.at b.text.items) ≡ b.left =
    ap (λ r. length (listed r)) c.self.invariant.are ∙ c.self.invariant.many in
    let same = ap length c.self.view_is in
    let some : 0 < b.left = omega (arith, all, same, c.requires) in
    popped b.left b.number b.at b.text.items c.self.invariant some c.in-Some.body.now c.deref.result.now c.deref.ensures.value
    c.in-Some.ensures.body

pub returns-in-Some : goal.returns-in-Some
returns-in-Some c =
    let b = c.self.inside in
    let all : length (bodies_left b.left b.number b.at b.text.items) ≡ b.left =
    ap (λ r. length (listed r)) c.self.invariant.are ∙ c.self.invariant.many in
    let same = ap length c.self.view_is in
    let some : 0 < b.left = omega (arith, all, same, c.requires) in
    popped_are b.left b.number b.at b.text.items c.self.invariant some c.in-Some.body.now c.deref.result.now c.deref.ensures.value
    c.in-Some.ensures.body
    ∙ ap (drop 1) c.self.view_is

pub returns-in_default : goal.returns-in_default
returns-in_default c =
    let b = c.self.inside in
    let all : length (bodies_left b.left b.number b.at b.text.items) ≡ b.left =
    ap (λ r. length (listed r)) c.self.invariant.are ∙ c.self.invariant.many in
    let same = ap length c.self.view_is in
    let some : 0 < b.left = omega (arith, all, same, c.requires) in
    absurd (never_none b.left b.number b.at b.text.items c.self.invariant some c.deref.result.now c.deref.ensures.value
    c.in_default.ensures.body)
