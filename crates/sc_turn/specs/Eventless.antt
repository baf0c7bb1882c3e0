-- Whether a chart has transitions without an event. Only contracts of private functions cite this.
use Rattle.std.specs.Prelude.{Bool, None, length}
use Rattle.std.specs.List.{list_any, range_with_len}
use Rattle.sc_types.specs.declared.chart.Chart.{Chart}
use Rattle.sc_law.specs.Transitions.{is_match, transition_paths}

-- one of the chart's transitions is taken without an event
abbrev pub has_eventless : Chart → Bool
has_eventless c = list_any (is_match c None) (range_with_len 0 (length (transition_paths c)))
