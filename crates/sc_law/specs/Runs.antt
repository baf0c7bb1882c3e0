-- A session in the middle of a turn. The fields of an environment are what SCXML 5.9 and 5.10 let an expression read;
-- how they are kept is this host's own rule.
use Rattle.std.specs.Prelude.{Bool, List, None, Option, Some, [], codes, decimal, filter_map, if◌then◌else◌, unwrap_or, ℕ, ◌++◌, ◌∷◌}
use Rattle.std.specs.List.{range_with_len}
use Rattle.sc_types.specs.declared.chart.Chart.{Chart}
use Rattle.sc_types.specs.declared.effect.Effect.{Effect}
use Rattle.sc_types.specs.declared.event.Data.{Data}
use Rattle.sc_types.specs.declared.event.Data.TheVariants.{Absent, Pairs}
use Rattle.sc_types.specs.declared.event.Event.{Event}
use Rattle.sc_types.specs.declared.event.Kind.TheVariants.{Platform}
use Rattle.sc_types.specs.declared.history.LogLine.{LogLine}
use Rattle.sc_types.specs.declared.profile.Profile.{Profile}
use Rattle.sc_types.specs.declared.session.Invoked.{Invoked}
use Rattle.sc_types.specs.declared.session.Phase.TheVariants as phase
use Rattle.sc_types.specs.declared.session.SessionState.{SessionState}
use Rattle.sc_types.specs.declared.value.Value.{Value}
use Rattle.sc_law.specs.Tree.{id_of, state_count, state_element}
use Rattle.sc_law.specs.Sets.{Histories}
use Rattle.sc_law.specs.Kinds.{is_history}

-- what expressions read; `ids` are those that `In` knows
pub record Env : Type 0 where
  pub values : List (List ℕ × Option Value)
  pub configuration : List ℕ
  pub ids : List (List ℕ × ℕ)
  pub bound : Option Event
  pub session : List ℕ
  pub chart_name : List ℕ
  pub profile : Profile

-- What content reads and changes. `entered` are the states that were entered at least once, `todo` those whose invokes
-- are still to be started; `sends` and `born` count the ids that were made and the sessions that were invoked;
-- `stopped` says that a final under the root was entered.
pub record Running : Type 0 where
  pub env : Env
  pub entered : List ℕ
  pub internal : List Event
  pub invokes : List Invoked
  pub sends : ℕ
  pub born : ℕ
  pub todo : List ℕ
  pub effects : List Effect
  pub logs : List LogLine
  pub stopped : Bool

-- a session in the middle of a turn
pub record RunState : Type 0 where
  pub running : Running
  pub histories : Histories

abbrev pub with_env : Env → Running → Running
with_env env r = record r { env = env }

abbrev pub with_configuration : List ℕ → Running → Running
with_configuration ss r = record r { env = record r.env { configuration = ss } }

abbrev pub with_running : Running → RunState → RunState
with_running r x = record x { running = r }

abbrev pub enqueue : Event → Running → Running
enqueue e r = record r { internal = r.internal ++ e ∷ [] }

abbrev pub with_effect : Effect → Running → Running
with_effect effect r = record r { effects = r.effects ++ effect ∷ [] }

-- 5.10.1: an event that the platform raises
abbrev pub platform_event : List ℕ → List ℕ → Data → Event
platform_event name sendid payload = record {
  number = 0;
  name = name;
  kind = Platform;
  sendid = sendid;
  origin = [];
  origintype = [];
  invokeid = [];
  payload = payload;
}

-- 3.12.2: an error puts `error.execution` at the back of the internal queue, with the `id` of a send that failed
abbrev pub failed : List ℕ → Running → Running
failed sendid r = enqueue (platform_event (codes "error.execution") sendid Absent) r

-- no pairs are no data (this host's own rule)
abbrev pub pairs_data : List (List ℕ × Value) → Data
pairs_data [] = Absent
pairs_data (pair ∷ pairs) = Pairs (pair ∷ pairs)

-- 3.14: a state without `id` has the id `#K`, K its number; histories count in the numbers (this host's own rule)
abbrev pub state_id : Chart → ℕ → List ℕ
state_id c s = unwrap_or (id_of (state_element c s)) (codes "#" ++ decimal s)

abbrev pub id_row : Chart → ℕ → Option (List ℕ × ℕ)
id_row c s = if is_history c s then None else Some (state_id c s, s)

-- the ids that `In` knows, those that are made too; a history has none (this host's own rule)
abbrev pub ids : Chart → List (List ℕ × ℕ)
ids c = filter_map (id_row c) (range_with_len 0 (state_count c))

-- a session that was not stepped yet, with what it is started with
abbrev pub fresh_state : List ℕ → List ℕ → List (List ℕ × Value) → SessionState
fresh_state session chart params = record {
  session = session;
  chart = chart;
  phase = phase.Fresh;
  configuration = [];
  values = [];
  entered = [];
  histories = [];
  internal = [];
  invokes = [];
  bound = None;
  params = params;
  sends = 0;
  born = 0;
}
