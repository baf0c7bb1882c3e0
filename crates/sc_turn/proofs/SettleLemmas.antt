-- A round that is taken, and the rounds behind it.
use Rattle.std.proofs.Common.{◌≡◌, ◌≢◌, ℕ, suc, refl, ap, sym, ◌∙◌}
use Rattle.sc_types.specs.declared.chart.Chart.{Chart}
use Rattle.sc_law.specs.Runs.{RunState}
use Rattle.sc_law.specs.Turn.{go_on, next, settle}
use Rattle.sc_turn.specs.Rounds.{look_of, taken}
use Rattle.sc_turn.specs.declared.rounds.Round.{Round}
use Rattle.sc_turn.specs.declared.rounds.Round.TheVariants.{Eventless, Internal, Rest}

-- what comes next is a round, and the run goes on behind it
pub settle-more : (c : Chart) (left : ℕ) (n : Round) (x y z : RunState) → next c x ≡ look_of c n y → n ≢ Rest
    → taken c n y ≡ z → settle c left z ≡ settle c (suc left) x
unfolding settle
settle-more c left Rest x y z e other t = absurd (other refl)
settle-more c left (Eventless ts) x y z e other t = ap (settle c left) (sym t) ∙ ap (go_on (settle c left)) (sym e)
settle-more c left Internal x y z e other t = ap (settle c left) (sym t) ∙ ap (go_on (settle c left)) (sym e)
