-- A session in the middle of a turn as the definitions see it. Only contracts of private functions cite this.
use Rattle.std.specs.Prelude.{IsTrue, List, Option, Some, [], unwrap_or, ℕ}
use Rattle.std.specs.List.{IsDistinct}
use Rattle.std.specs.Str.{bytes_eq}
use Rattle.sc_types.specs.Attributes.{text_at}
use Rattle.sc_types.specs.declared.attribute.Attribute.TheVariants as attribute
use Rattle.sc_types.specs.declared.chart.Chart.{Chart}
use Rattle.sc_types.specs.declared.event.Event.{Event}
use Rattle.sc_types.specs.declared.session.Cue.{Cue}
use Rattle.sc_types.specs.declared.session.Cue.TheVariants.{Cancel, External, Fresh, Resume}
use Rattle.sc_types.specs.declared.session.SessionState.{SessionState}
use Rattle.sc_law.specs.Fitting.{are_states}
use Rattle.sc_law.specs.Runs.{RunState as PlainRunState}
use Rattle.sc_law.specs.Turn.{begin}
use Rattle.sc_sets.specs.Conditions.{KeepsStates}
use Rattle.sc_eval.specs.Places.{names_of}
use Rattle.sc_select.specs.Runs.{IsRunOf, run_state}
use Rattle.sc_turn.specs.declared.run_state.RunState.{RunState}

abbrev pub state_of : RunState → PlainRunState
state_of x = run_state x.running x.histories

-- a session of the chart whose tables are used
pub record IsOver (c : Chart) (x : RunState) : Type 0 where
  pub run : IsRunOf c x.running
  pub kept : KeepsStates c x.histories

-- the name of a chart, which is empty where it has none
abbrev pub chart_name : Chart → List ℕ
chart_name c = unwrap_or (text_at attribute.Name c.root) []

-- the event that `_event` names in the turn of a cue: the one that the cue brings, else the session's
abbrev pub bound_by : Cue → Option Event → Option Event
bound_by Fresh bound = bound
bound_by Resume bound = bound
bound_by Cancel bound = bound
bound_by (External e) bound = Some e

-- the session as a turn begins with it, where `_event` names this event
abbrev pub begun : Chart → SessionState → Option Event → PlainRunState
begun c before bound = begin c (record before { bound = bound })

-- What a turn needs of the session that it begins with. A session that fits its chart has it.
pub record CanBegin (c : Chart) (s : SessionState) : Type 0 where
  pub active : IsTrue (are_states c s.configuration)
  pub entered : IsTrue (are_states c s.entered)
  pub kept : KeepsStates c s.histories
  pub distinct : IsDistinct bytes_eq (names_of s.values)
