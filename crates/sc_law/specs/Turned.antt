-- A turn with what it gave, and what it was computed of. This host's own rule.
use Rattle.std.specs.Prelude.{◌≡◌}
use Rattle.sc_types.specs.declared.chart.Chart.{Chart}
use Rattle.sc_types.specs.declared.session.Cue.{Cue}
use Rattle.sc_types.specs.declared.session.Phase.TheVariants as phase
use Rattle.sc_types.specs.declared.session.SessionState.{SessionState}
use Rattle.std.specs.Arc.{arc_value}
use Rattle.sc_law.specs.Fitting.{Fits}
use Rattle.sc_law.specs.Turn.{TurnResult, turn}
use Rattle.sc_law.specs.declared.turned.Turned.TheInside.{Inside}

pub record TurnedOf : Type 0 where
  pub chart : Chart
  pub before : SessionState
  pub cue : Cue
  pub given : TurnResult

abbrev pub turned : Inside → TurnedOf
turned t = record { chart = arc_value t.chart; before = t.before; cue = t.cue; given = t.given }

-- what it gave is what the turn gives, and a session that goes on running fits the chart
pub record IsTurn (t : TurnedOf) : Type 0 where
  pub given : t.given ≡ turn t.chart t.before t.cue
  pub fits : t.given.after.phase ≡ phase.Running → Fits t.chart t.given.after

-- a turn of this chart, from this session and for this cue
abbrev pub IsTurnOf : Chart → SessionState → Cue → TurnedOf → Type 0
IsTurnOf c before cue t = (t.chart ≡ c) × (t.before ≡ before) × (t.cue ≡ cue)
