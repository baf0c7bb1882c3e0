-- What tables keep. Only the tables' own invariant cites this.
use Rattle.std.specs.Prelude.{◌≡◌, ℕ, ◌+◌, None, List, filter, length, map}
use Rattle.std.specs.List.{range_with_len}
use Rattle.sc_types.specs.declared.chart.Chart.{Chart}
use Rattle.sc_law.specs.Tree.{state_count}
use Rattle.sc_law.specs.Kinds.{is_history}
use Rattle.sc_law.specs.Configurations.{defaults}
use Rattle.sc_law.specs.Legality.{legal_fault}
use Rattle.sc_law.specs.Transitions.{transition_paths}
use Rattle.sc_tables.specs.Built.{AreStates, AreTransitions}
use Rattle.sc_tables.specs.declared.states.States.{States}
use Rattle.sc_tables.specs.declared.transitions.Transitions.{Transitions}

pub record AreTables (c : Chart) (count transition_count : ℕ) (states : States) (transitions : Transitions)
    (lists : List (List ℕ)) (histories : List ℕ) : Type 0 where
  pub legal : legal_fault c ≡ None
  pub count_is : count ≡ state_count c
  pub transition_count_is : transition_count ≡ length (transition_paths c)
  pub states_are : AreStates c states
  pub transitions_are : AreTransitions c transitions
  pub defaults_are : lists ≡ map (defaults c) (range_with_len 0 (state_count c + 1))
  pub histories_are : histories ≡ filter (is_history c) (range_with_len 0 (state_count c))
