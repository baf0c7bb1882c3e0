-- Which states of a session fit a chart, and which cues they wait for. This host's own rule, for the sets and lists of
-- SCXML Appendix D.
use Rattle.std.specs.Prelude.{All, Bool, IsTrue, List, Option, [], length, map, nat_lt, not, true, ℕ, ◌&&◌, ◌<◌, ◌==◌, ◌∷◌, ◌≡◌}
use Rattle.std.specs.List.{IsDistinct, list_all, list_any}
use Rattle.std.specs.Str.{bytes_eq}
use Rattle.sc_base.specs.Ascending.{contains}
use Rattle.sc_types.specs.declared.chart.Chart.{Chart}
use Rattle.sc_types.specs.declared.chart.Node.{Node}
use Rattle.sc_types.specs.declared.session.Cue.{Cue}
use Rattle.sc_types.specs.declared.session.Cue.TheVariants.{Cancel, External, Fresh, Resume}
use Rattle.sc_types.specs.declared.session.Invoked.{Invoked}
use Rattle.sc_types.specs.declared.session.Phase.TheVariants as phase
use Rattle.sc_types.specs.declared.session.SessionState.{SessionState}
use Rattle.sc_types.specs.declared.value.Value.{Value}
use Rattle.sc_law.specs.Nodes.{element}
use Rattle.sc_law.specs.Tree.{state_count}
use Rattle.sc_law.specs.Configurations.{IsConfiguration, parent_of}
use Rattle.sc_law.specs.Records.{records}
use Rattle.sc_law.specs.Runs.{RunState, fresh_state}
use Rattle.sc_law.specs.Evaluation.{is_pair_named}
use Rattle.sc_law.specs.Data.{data_paths, own_id}
use Rattle.sc_law.specs.Invokes.{invokes_of}
use Rattle.sc_law.specs.Turn.{begin}
use Rattle.sc_law.specs.Kinds.{is_history}

-- each is above the one before it
abbrev pub rises : List ℕ → Bool
rises [] = true
rises (m ∷ []) = true
rises (m ∷ n ∷ ns) = nat_lt m n && rises (n ∷ ns)

-- ascending numbers of states; a history is none
abbrev pub are_states : Chart → List ℕ → Bool
are_states c ss = rises ss && list_all (λ s. nat_lt s (state_count c) && not (is_history c s)) ss

-- what a history recorded from some legal configuration in which its parent was active
abbrev pub IsRecorded : Chart → ℕ × List ℕ → Type 0
IsRecorded c kept = IsTrue (is_history c kept.0)
    × ((configuration : List ℕ) × IsConfiguration c configuration × IsTrue (contains configuration (parent_of c kept.0))
    × (kept.1 ≡ records c configuration kept.0))

-- an invoke of an active state
abbrev pub is_own_invoke : Chart → List ℕ → Invoked → Bool
is_own_invoke c configuration i =
    contains configuration i.state && list_any (λ (p : ℕ × Node). p.0 == i.place) (invokes_of c i.state)

abbrev pub is_same_element : Invoked → Invoked → Bool
is_same_element i j = i.state == j.state && i.place == j.place

abbrev pub has_datum : List (List ℕ × Option Value) → Node → Bool
has_datum values n = list_any (is_pair_named (own_id n)) values

abbrev pub data_elements : Chart → List Node
data_elements c = map (element c) (data_paths c)

-- A run in the middle of a turn. Its configuration is legal, its lists are ascending and name states, its invokes are
-- those of active states, each once, the states whose invokes are still to be started are active and none of theirs
-- runs, and each datum of the chart is among its values.
pub record FitsRun (c : Chart) (x : RunState) : Type 0 where
  pub legal : IsConfiguration c x.running.env.configuration
  pub active : IsTrue (are_states c x.running.env.configuration)
  pub entered : IsTrue (are_states c x.running.entered)
  pub in_order : IsTrue (rises (map (λ (kept : ℕ × List ℕ). kept.0) x.histories))
  pub kept : IsTrue (list_all (λ (kept : ℕ × List ℕ). are_states c kept.1) x.histories)
  pub recorded : All (IsRecorded c) x.histories
  pub invokes : IsTrue (list_all (is_own_invoke c x.running.env.configuration) x.running.invokes)
  pub no_invoke_twice : IsDistinct is_same_element x.running.invokes
  pub to_start : IsTrue (rises x.running.todo && list_all (contains x.running.env.configuration) x.running.todo)
  pub none_started : IsTrue (list_all (λ (i : Invoked). not (contains x.running.todo i.state)) x.running.invokes)
  pub no_name_twice : IsDistinct bytes_eq (map (λ (pair : List ℕ × Option Value). pair.0) x.running.env.values)
  pub declared : IsTrue (list_all (has_datum x.running.env.values) (data_elements c))

-- a session that runs, as a turn begins with it
pub record FitsRunning (c : Chart) (s : SessionState) : Type 0 where
  pub running : s.phase ≡ phase.Running
  pub fits : FitsRun c (begin c s)

-- a session that fits a chart: it was not stepped yet, or it runs
pub data Fits (c : Chart) (s : SessionState) : Type 0 where
  fresh : s ≡ fresh_state s.session s.chart s.params → Fits c s
  runs : FitsRunning c s → Fits c s

-- the cue that a session waits for; whether one is cancelled, and what its external queue holds, is the host's
abbrev pub HasCue : SessionState → Cue → Type 0
HasCue s Fresh = s.phase ≡ phase.Fresh
HasCue s Resume = (s.phase ≡ phase.Running) × (0 < length s.internal)
HasCue s Cancel = s.phase ≡ phase.Running
HasCue s (External e) = (s.phase ≡ phase.Running) × (s.internal ≡ [])
