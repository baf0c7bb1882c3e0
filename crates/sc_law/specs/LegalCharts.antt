-- The legal chart that a text spells, or its first fault. This host's own rule.
use Rattle.std.specs.Prelude.{ℕ, List, Result, Ok, Err}
use Rattle.std.specs.Option.{option_map_or}
use Rattle.sc_types.specs.ChartTexts.{chart_of}
use Rattle.sc_types.specs.declared.chart.Chart.{Chart}
use Rattle.sc_types.specs.declared.chart.ChartFault.{ChartFault}
use Rattle.sc_expr.specs.Reading.{expr_of}
use Rattle.sc_law.specs.Legality.{legal_fault}

-- the faults of legality come behind those of the text
abbrev pub legal_or_fault : Result Chart ChartFault → Result Chart ChartFault
legal_or_fault (Ok chart) = option_map_or Err (legal_fault chart) (Ok chart)
legal_or_fault (Err fault) = Err fault

abbrev pub legal_chart_of : List ℕ → Result Chart ChartFault
legal_chart_of text = legal_or_fault (chart_of expr_of text)
