use Rattle.std.proofs.Common.{◌≡◌, map}
use Rattle.std.specs.List.{range_with_len}
use Rattle.sc_tables.specs.Built.{below_of}
use Rattle.sc_tables.proofs.states.below_rows.Given as goal

abbrev pub invariant-loop-state : goal.invariant-loop-state
invariant-loop-state l = l.rows ≡ map (below_of l.paths) (range_with_len 0 l.state)
