-- A turn that leaves its session running leaves one that fits its chart.
use Rattle.std.proofs.Common.{◌≡◌, None, IfOk, Result, Ok, Err, ap, subst, sym, ◌∙◌}
use Rattle.sc_types.specs.declared.chart.Chart.{Chart}
use Rattle.sc_types.specs.declared.session.Cue.{Cue}
use Rattle.sc_types.specs.declared.session.Phase.TheVariants as phase
use Rattle.sc_types.specs.declared.session.SessionState.{SessionState}
use Rattle.sc_law.specs.Fitting.{Fits, HasCue}
use Rattle.sc_law.specs.Legality.{legal_fault}
use Rattle.sc_law.specs.Turn.{TurnResult, turn}
use Rattle.sc_law.specs.Turned.{TurnedOf}
use Rattle.sc_law_theorems.proofs.Fitting.{turn-leaves}

-- what a turn gives fits, where the session goes on
pub given-fits : (c : Chart) (before : SessionState) (cue : Cue) (r : TurnResult) → legal_fault c ≡ None → Fits c before
    → HasCue before cue → r ≡ turn c before cue → r.after.phase ≡ phase.Running → Fits c r.after
given-fits c before cue r legal fits has gives running =
    let after = ap (λ (x : TurnResult). x.after) (sym gives) in
    subst (Fits c) after
    (turn-leaves c before cue legal fits has (ap (λ (s : SessionState). s.phase) after ∙ running))

-- so where a turn was given
pub if-given : {E : Type 0} (c : Chart) (before : SessionState) (cue : Cue) (r : Result TurnResult E)
    → legal_fault c ≡ None → Fits c before → HasCue before cue → IfOk r (λ x. x ≡ turn c before cue)
    → IfOk r (λ x. x.after.phase ≡ phase.Running → Fits c x.after)
if-given c before cue (Ok x) legal fits has gives = given-fits c before cue x legal fits has gives
if-given c before cue (Err e) legal fits has gives = tt

-- and so where one is told with what it was computed of
pub if-turned : {E : Type 0} (c : Chart) (r : Result TurnedOf E) (t : TurnedOf) → IfOk r (λ x. x ≡ t)
    → (t.given.after.phase ≡ phase.Running → Fits c t.given.after)
    → IfOk r (λ x. x.given.after.phase ≡ phase.Running → Fits c x.given.after)
if-turned c (Ok x) t h f = subst (λ (y : TurnedOf). y.given.after.phase ≡ phase.Running → Fits c y.given.after) (sym h) f
if-turned c (Err e) t h f = tt
