use Rattle.std.proofs.Common.{◌≡◌, ◌<◌, List, [], ◌∷◌, ℕ, drop, subst, arith}
use Rattle.std.specs.Option.{MatchOption}
use Rattle.sc_journal.proofs.LeftLemmas.{front_of}
use Rattle.sc_journal.proofs.bodies.Bodies.front.Goals as goal

pub returns : goal.returns
returns c =
    let b = c.self.inside in
    let some : 0 < b.left = omega (arith, c.if-self-eq0.false) in
    subst (λ (l : List (List ℕ)). MatchOption c.body_at.result (l ≡ []) (λ body. l ≡ body.now ∷ drop 1 l)) c.self.view_is
    (front_of b.left b.number b.at b.text.items c.self.invariant some c.deref.result.now c.deref.ensures.value c.body_at.result c.body_at.ensures.body)
