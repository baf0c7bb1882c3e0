-- A turn of a session (SCXML Appendix D, interpret, mainEventLoop and exitInterpreter), with a limit on its rounds
-- (this host's own rule): a round takes a set of eventless transitions, one internal event or the turn's external
-- event.
use Rattle.std.specs.Prelude.{Bool, List, None, Some, [], false, filter, suc, true, unwrap_or, zero, ℕ, ◌&&◌, ◌-◌, ◌∷◌, ◌==◌}
use Rattle.std.specs.Option.{option_map_or}
use Rattle.std.specs.Str.Parse.{digits_value}
use Rattle.sc_types.specs.declared.attribute.Attribute.TheVariants as attribute
use Rattle.sc_types.specs.declared.chart.Chart.{Chart}
use Rattle.sc_types.specs.declared.effect.Effect.{Effect}
use Rattle.sc_types.specs.declared.event.Data.{Data}
use Rattle.sc_types.specs.declared.event.Data.TheVariants.{Absent}
use Rattle.sc_types.specs.declared.event.Event.{Event}
use Rattle.sc_types.specs.declared.history.LogLine.{LogLine}
use Rattle.sc_types.specs.declared.limits.TheConstants.{DEFAULT_ROUNDS}
use Rattle.sc_types.specs.declared.session.Cue.{Cue}
use Rattle.sc_types.specs.declared.session.Cue.TheVariants.{Cancel, External, Fresh, Resume}
use Rattle.sc_types.specs.declared.session.How.TheVariants as how
use Rattle.sc_types.specs.declared.session.Phase.{Phase}
use Rattle.sc_types.specs.declared.session.Phase.TheVariants as phase
use Rattle.sc_types.specs.declared.session.SessionState.{SessionState}
use Rattle.sc_types.specs.Attributes.{profile_of, text_at}
use Rattle.sc_law.specs.Tree.{root}
use Rattle.sc_law.specs.Configurations.{parent_of}
use Rattle.sc_law.specs.Entry.{first_entry}
use Rattle.sc_law.specs.Runs.{Env, RunState, Running, ids, with_env, with_running}
use Rattle.sc_law.specs.Data.{first_data}
use Rattle.sc_law.specs.Selection.{Selected, select}
use Rattle.sc_law.specs.Leaving.{leave_all}
use Rattle.sc_law.specs.Entering.{done_data, enter}
use Rattle.sc_law.specs.Microstep.{microstep}
use Rattle.sc_law.specs.Invokes.{finalize, start_invokes}
use Rattle.sc_law.specs.Kinds.{is_final}

-- an event becomes `_event`
abbrev pub bind : Event → RunState → RunState
bind e x = with_running (with_env (record x.running.env { bound = Some e }) x.running) x

abbrev pub take : Chart → Selected → RunState
take c s = microstep c s.transitions s.run

-- the microstep of what an event enables
abbrev pub take_event : Chart → Event → RunState → RunState
take_event c e x = take c (select c (Some e.name) (bind e x))

-- what comes next: no round, with the run as selection leaves it; or a round, with the run before it is taken, where
-- Runaway stands, and after it
pub data Look : Type 0 where
  none : RunState → Look
  round : RunState → RunState → Look

abbrev pub of_queue : Chart → List Event → RunState → Look
of_queue c [] x = none x
of_queue c (e ∷ es) x = round x (take_event c e (with_running (record x.running { internal = es }) x))

-- eventless transitions come before internal events
abbrev pub of_taken : Chart → List ℕ → RunState → Look
of_taken c [] x = of_queue c x.running.internal x
of_taken c (t ∷ ts) x = round x (microstep c (t ∷ ts) x)

-- what comes next, before the invokes are started
abbrev pub look : Chart → RunState → Look
look c x = let s = select c None x in of_taken c s.transitions s.run

-- where starting the invokes put events into the internal queue there is a round after all, and eventless transitions
-- come first in it, on the new data
abbrev pub look_again : Chart → List Event → RunState → Look
look_again c [] x = none x
look_again c (e ∷ es) x = look c x

abbrev pub rested : Chart → RunState → Look
rested c x = look_again c x.running.internal x

abbrev pub or_rested : Chart → Look → Look
or_rested c (none x) = rested c (start_invokes c x)
or_rested c (round x y) = round x y

-- a run that has stopped takes no round
abbrev pub next_of : Chart → Bool → RunState → Look
next_of c true x = none x
next_of c false x = or_rested c (look c x)

unfoldable pub next : Chart → RunState → Look
next c x = next_of c x.running.stopped x

-- the run at the end of its rounds, and whether it rests there
abbrev pub out_of_rounds : Look → Bool × RunState
out_of_rounds (none x) = (true, x)
out_of_rounds (round x y) = (false, x)

abbrev pub go_on : (RunState → Bool × RunState) → Look → Bool × RunState
go_on more (none x) = (true, x)
go_on more (round x y) = more y

-- rounds until the run rests, within so many
unfoldable pub settle : Chart → ℕ → RunState → Bool × RunState
settle c zero x = out_of_rounds (next c x)
settle c (suc rounds) x = go_on (settle c rounds) (next c x)

-- the rounds that a turn may have
abbrev pub round_limit : Chart → ℕ
round_limit c = option_map_or (digits_value 10) (text_at attribute.Limit c.root) DEFAULT_ROUNDS

-- what expressions read at the beginning of a turn; without a `name` the chart has the empty one
abbrev pub begin_env : Chart → SessionState → Env
begin_env c before = record {
  values = before.values;
  configuration = before.configuration;
  ids = ids c;
  bound = before.bound;
  session = before.session;
  chart_name = unwrap_or (text_at attribute.Name c.root) [];
  profile = profile_of c;
}

abbrev pub begin : Chart → SessionState → RunState
begin c before = record {
  running = record {
    env = begin_env c before;
    entered = before.entered;
    internal = before.internal;
    invokes = before.invokes;
    sends = before.sends;
    born = before.born;
    todo = [];
    effects = [];
    logs = [];
    stopped = false;
  };
  histories = before.histories;
}

-- what a turn gives: the session after it, what the host is to do, and what was logged
pub record TurnResult : Type 0 where
  pub after : SessionState
  pub effects : List Effect
  pub logs : List LogLine

-- the session after a turn, with its name, chart and params as before
abbrev pub after : SessionState → Phase → RunState → TurnResult
after before p x = record {
  after = record before {
    phase = p;
    configuration = x.running.env.configuration;
    values = x.running.env.values;
    entered = x.running.entered;
    histories = x.histories;
    internal = x.running.internal;
    invokes = x.running.invokes;
    bound = x.running.env.bound;
    sends = x.running.sends;
    born = x.running.born;
  };
  effects = x.running.effects;
  logs = x.running.logs;
}

-- Appendix D, exitInterpreter: all states are exited, and nothing is recorded; only then does a final under the root
-- give its data, when no state is active

-- the finals under the root that are active
abbrev pub top_finals : Chart → List ℕ → List ℕ
top_finals c configuration = filter (λ s. is_final c s && parent_of c s == root c) configuration

abbrev pub final_data : Chart → List ℕ → Running → Data × Running
final_data c [] r = (Absent, r)
final_data c (s ∷ ss) r = done_data c s r

abbrev pub exit_all : Chart → Running → Data × Running
exit_all c r = final_data c (top_finals c r.env.configuration) (leave_all c r.env.configuration r)

abbrev pub ended_with : SessionState → RunState → Data × Running → TurnResult
ended_with before x got = after before (phase.Ended (how.Final got.0)) (with_running got.1 x)

abbrev pub finish_rested : Chart → SessionState → Bool → RunState → TurnResult
finish_rested c before true x = ended_with before x (exit_all c x.running)
finish_rested c before false x = after before phase.Running x

-- A run that did not come to rest within its rounds has run away (this host's own rule). It exits no state and keeps
-- what it did: the errors of the selection that found the next round are in its queue, but that round's event is not
-- taken from there, and `_event` is still the last one.
abbrev pub finish_settled : Chart → SessionState → Bool → RunState → TurnResult
finish_settled c before true x = finish_rested c before x.running.stopped x
finish_settled c before false x = after before (phase.Ended how.Runaway) x

abbrev pub finish : Chart → SessionState → Bool × RunState → TurnResult
finish c before settled = finish_settled c before settled.0 settled.1

-- data, and then the document's own entry, which is no round
abbrev pub start : Chart → SessionState → RunState → RunState
start c before x = with_running (enter c (first_entry c) (first_data c before.params x.running)) x

-- the round of an external event, also where it enables nothing; the invokes come before the selection
abbrev pub external : Chart → Event → RunState → RunState
external c e x = let y = bind e x in take c (select c (Some e.name) (with_running (finalize c e y.running) y))

-- a session that is cancelled exits its states and gives no data
unfoldable pub turn : Chart → SessionState → Cue → TurnResult
turn c before Fresh = finish c before (settle c (round_limit c) (start c before (begin c before)))
turn c before Resume = finish c before (settle c (round_limit c) (begin c before))
turn c before Cancel = let x = begin c before in
    after before (phase.Ended how.Cancelled) (with_running (exit_all c x.running).1 x)
turn c before (External e) = finish c before (settle c (round_limit c - 1) (external c e (begin c before)))
