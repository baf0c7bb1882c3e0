-- What a round takes. Only contracts of private functions cite this.
use Rattle.std.specs.Prelude.{All, List, Some, [], length, ◌<◌, ◌∷◌}
use Rattle.sc_types.specs.declared.chart.Chart.{Chart}
use Rattle.sc_types.specs.declared.event.Event.{Event}
use Rattle.sc_law.specs.Transitions.{transition_paths}
use Rattle.sc_law.specs.Runs.{RunState, with_running}
use Rattle.sc_law.specs.Invokes.{finalize}
use Rattle.sc_law.specs.Microstep.{microstep}
use Rattle.sc_law.specs.Selection.{select}
use Rattle.sc_law.specs.Turn.{Look, none, round, take, take_event}
use Rattle.sc_turn.specs.declared.rounds.Round.{Round}
use Rattle.sc_turn.specs.declared.rounds.Round.TheVariants.{Eventless, Internal, Rest}

-- the front of the internal queue is taken
abbrev pub front_taken : Chart → List Event → RunState → RunState
front_taken c [] x = x
front_taken c (e ∷ es) x = take_event c e (with_running (record x.running { internal = es }) x)

abbrev pub taken : Chart → Round → RunState → RunState
taken c Rest x = x
taken c (Eventless ts) x = microstep c ts x
taken c Internal x = front_taken c x.running.internal x

-- what comes next, for a run as selection left it
abbrev pub look_of : Chart → Round → RunState → Look
look_of c Rest x = none x
look_of c (Eventless ts) x = round x (microstep c ts x)
look_of c Internal x = round x (front_taken c x.running.internal x)

-- the round of an external event that `_event` names already
abbrev pub external_bound : Chart → Event → RunState → RunState
external_bound c e x = take c (select c (Some e.name) (with_running (finalize c e x.running) x))

-- the transitions that are taken are the chart's
abbrev pub AreOf : Chart → Round → Type 0
AreOf c Rest = Unit {0}
AreOf c (Eventless ts) = All (λ t. t < length (transition_paths c)) ts
AreOf c Internal = Unit {0}
