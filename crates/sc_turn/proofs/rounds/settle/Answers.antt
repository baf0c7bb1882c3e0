use Rattle.std.proofs.Common.{◌≡◌, ◌-◌, suc, ap, arith, ◌∙◌}
use Rattle.sc_law.specs.Turn.{settle}
use Rattle.sc_turn.specs.States.{state_of}
use Rattle.sc_turn.proofs.SettleLemmas.{settle-more}
use Rattle.sc_turn.proofs.rounds.settle.Goals as goal

pub loop-round-preserved : goal.loop-round-preserved
loop-round-preserved c =
    let plan = c.args.plan.now in
    let x = state_of c.loop-round.x in
    let some : suc (c.loop-round.left - 1) ≡ c.loop-round.left = omega (arith, c.if-left-eq0.false) in
    record {
      rest =
          settle-more plan (c.loop-round.left - 1) c.in_ok-round.round x (state_of c.next.new.x)
          (state_of c.take.new.x) c.in_ok-round.ensures.ok c.in_default.not-Rest c.in_ok-take.ensures.ok
          ∙ ap (λ n. settle plan n x) some ∙ c.loop-round.invariant.rest;
      over = c.in_ok-take.ensures.over;
    }
