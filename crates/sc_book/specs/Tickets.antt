-- A ticket as what was taken. Only private clauses cite these definitions.
use Rattle.std.specs.Prelude.{ℕ}
use Rattle.std.specs.Arc.{arc_value}
use Rattle.sc_book.specs.Claims.{TicketOf}
use Rattle.sc_core.specs.declared.inputs.TurnInput.{TurnInput}
use Rattle.sc_types.specs.declared.chart.Chart.{Chart}

abbrev pub ticket_of : {P : Type 0} → (P → Chart) → ℕ → TurnInput P → TicketOf
ticket_of chart_of place input = record {
  place = place;
  chart = chart_of (arc_value input.plan);
  before = input.before;
  cue = input.cue;
}
