-- How a run over the tables of a chart looks to the definitions. This host's own rule.
use Rattle.std.specs.Prelude.{◌≡◌}
use Rattle.std.specs.Arc.{arc_value}
use Rattle.sc_types.specs.declared.chart.Chart.{Chart}
use Rattle.sc_law.specs.Tree.{state_count}
use Rattle.sc_law.specs.Sets.{Histories}
use Rattle.sc_law.specs.Runs.{RunState, ids}
use Rattle.sc_exec.specs.Runs.{running_of}
use Rattle.sc_exec.specs.declared.running.Running.{Running}

-- a run with its histories
abbrev pub run_state : Running → Histories → RunState
run_state r h = record { running = running_of r; histories = h }

-- A run over the tables of a chart: its rows have the width of the chart, and its ids are the chart's.
pub record IsRunOf (c : Chart) (r : Running) : Type 0 where
  pub configuration : r.env.configuration.width ≡ state_count c
  pub entered : r.entered.width ≡ state_count c
  pub todo : r.todo.width ≡ state_count c
  pub ids : arc_value r.env.ids ≡ ids c
