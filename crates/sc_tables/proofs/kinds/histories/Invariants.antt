use Rattle.std.proofs.Common.{◌≡◌, filter}
use Rattle.std.specs.List.{range_with_len}
use Rattle.sc_tables.specs.Blocks.{is_history_in}
use Rattle.sc_tables.proofs.kinds.histories.Given as goal

abbrev pub invariant-loop-state : goal.invariant-loop-state
invariant-loop-state l = l.found ≡ filter (is_history_in l.kinds) (range_with_len 0 l.state)
