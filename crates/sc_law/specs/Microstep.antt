-- One microstep (SCXML 3.13; Appendix D, microstep, exitStates, executeTransitionContent and enterStates).
use Rattle.std.specs.Prelude.{List, [], ℕ, ◌∷◌}
use Rattle.sc_base.specs.Folds.{each}
use Rattle.sc_types.specs.declared.chart.Chart.{Chart}
use Rattle.sc_law.specs.Nodes.{kids}
use Rattle.sc_law.specs.Transitions.{transition}
use Rattle.sc_law.specs.Sets.{Histories, exit_set}
use Rattle.sc_law.specs.Entry.{entry}
use Rattle.sc_law.specs.Runs.{RunState, Running, with_running}
use Rattle.sc_law.specs.Content.{run_block}
use Rattle.sc_law.specs.Leaving.{exit_states}
use Rattle.sc_law.specs.Entering.{enter}

-- executeTransitionContent, of one transition
abbrev pub run_content : Chart → ℕ → Running → Running
run_content c t r = run_block (kids (transition c t)) r

-- what transitions do to a run whose states they have exited, with the histories before that exit
abbrev pub arrive : Chart → List ℕ → Histories → RunState → RunState
arrive c ts before x = with_running (enter c (entry c before x.histories ts) (each (run_content c) ts x.running)) x

-- exit, content, entry; without transitions nothing changes
unfoldable pub microstep : Chart → List ℕ → RunState → RunState
microstep c [] x = x
microstep c (t ∷ ts) x = arrive c (t ∷ ts) x.histories
    (exit_states c (exit_set c x.histories (t ∷ ts) x.running.env.configuration) x)
