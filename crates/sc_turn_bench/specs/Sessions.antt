-- Sessions that wait for an external event. This host's own rule.
use Rattle.std.specs.Prelude.{◌≡◌, []}
use Rattle.sc_types.specs.declared.chart.Chart.{Chart}
use Rattle.sc_types.specs.declared.session.Cue.{Cue}
use Rattle.sc_types.specs.declared.session.SessionState.{SessionState}
use Rattle.sc_types.specs.declared.session.Phase.TheVariants as phase
use Rattle.sc_law.specs.Fitting.{Fits, HasCue}

-- the session fits the chart and waits for an external event
pub record Waits (c : Chart) (s : SessionState) : Type 0 where
  pub fits : Fits c s
  pub running : s.phase ≡ phase.Running
  pub empty : s.internal ≡ []

-- each session that waits for an external event can take this cue
abbrev pub WaitsFor : Cue → Type 0
WaitsFor cue = (s : SessionState) → s.phase ≡ phase.Running → s.internal ≡ [] → HasCue s cue
