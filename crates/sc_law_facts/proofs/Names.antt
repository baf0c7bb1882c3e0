-- What a turn keeps of a session.
use Rattle.std.proofs.Common.{◌≡◌, ℕ, List}
use Rattle.std.specs.Prelude.{refl, Bool, true, false}
use Rattle.sc_types.specs.declared.chart.Chart.{Chart}
use Rattle.sc_types.specs.declared.session.Cue.{Cue}
use Rattle.sc_types.specs.declared.session.Cue.TheVariants.{Fresh, Resume, Cancel, External}
use Rattle.sc_types.specs.declared.session.SessionState.{SessionState}
use Rattle.sc_law.specs.Runs.{RunState}
use Rattle.sc_law.specs.Sending.{PairsOf}
use Rattle.sc_law.specs.Turn.{turn, finish_rested, finish_settled, finish}

-- the session's name, its chart and what it was started with
abbrev pub kept : SessionState → List ℕ × List ℕ × PairsOf
kept s = (s.session, s.chart, s.params)

rested_keeps : (c : Chart) (s : SessionState) (b : Bool) (x : RunState) → kept (finish_rested c s b x).after ≡ kept s
rested_keeps c s true x = refl
rested_keeps c s false x = refl

settled_keeps : (c : Chart) (s : SessionState) (b : Bool) (x : RunState) → kept (finish_settled c s b x).after ≡ kept s
settled_keeps c s true x = rested_keeps c s x.running.stopped x
settled_keeps c s false x = refl

finished_keeps : (c : Chart) (s : SessionState) (settled : Bool × RunState) → kept (finish c s settled).after ≡ kept s
finished_keeps c s settled = settled_keeps c s settled.0 settled.1

-- a turn keeps them
pub turn_keeps : (c : Chart) (s : SessionState) (cue : Cue) → kept (turn c s cue).after ≡ kept s
unfolding turn
turn_keeps c s Fresh = search (finished_keeps)
turn_keeps c s Resume = search (finished_keeps)
turn_keeps c s Cancel = refl
turn_keeps c s (External e) = search (finished_keeps)
