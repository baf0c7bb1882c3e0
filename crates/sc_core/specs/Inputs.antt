-- What an engine computes the turn of a session from. This host's own rule.
use Rattle.std.specs.Prelude.{ℕ, ◌≡◌, Option, Some, None, slice_get}
use Rattle.std.specs.Arc.{arc_value}
use Rattle.sc_law.specs.Fitting.{Fits, HasCue}
use Rattle.sc_law.specs.Legality.{legal_fault}
use Rattle.sc_types.specs.declared.chart.Chart.{Chart}
use Rattle.sc_types.specs.declared.host.HostImage.{HostImage}
use Rattle.sc_types.specs.declared.host.SessionImage.{SessionImage}
use Rattle.sc_machine.specs.Cues.{cue_of}
use Rattle.sc_machine.specs.Hosts.{chart_named}
use Rattle.sc_core.specs.declared.inputs.TurnInput.{TurnInput}

-- The plan of the session's chart, its state and its cue; and an engine can compute the turn.
pub record IsInput {P : Type 0} (chart_of : P → Chart) (g : HostImage) (s : SessionImage)
    (i : TurnInput P) : Type 0 where
  pub chart : chart_of (arc_value i.plan) ≡ chart_named g s.state.chart
  pub before : i.before ≡ s.state
  pub cue : cue_of s ≡ Some i.cue
  pub legal : legal_fault (chart_named g s.state.chart) ≡ None
  pub fits : Fits (chart_named g s.state.chart) s.state
  pub has : HasCue s.state i.cue

-- there is one exactly where the session has a cue
abbrev pub IsInputOf : {P : Type 0} → (P → Chart) → HostImage → SessionImage → Option (TurnInput P) → Type 0
IsInputOf chart_of g s None = cue_of s ≡ None
IsInputOf chart_of g s (Some i) = IsInput chart_of g s i

-- the same of the session at a place
abbrev pub IsInputAt : {P : Type 0} → (P → Chart) → HostImage → ℕ → Option (TurnInput P) → Type 0
IsInputAt chart_of g place o = (s : SessionImage) → slice_get g.sessions place ≡ Some s → IsInputOf chart_of g s o
