use Rattle.std.proofs.Common.{◌≡◌, filter_map}
use Rattle.std.specs.List.{range_with_len}
use Rattle.sc_law.specs.Runs.{id_row}
use Rattle.sc_turn.proofs.ids.chart_ids.Given as goal

abbrev pub invariant-loop-s : goal.invariant-loop-s
invariant-loop-s l = l.rows ≡ filter_map (id_row l.t) (range_with_len 0 l.s)
