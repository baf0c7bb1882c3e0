use Rattle.std.proofs.Common.{◌≡◌, map}
use Rattle.std.specs.List.{range_with_len}
use Rattle.sc_law.specs.Configurations.{defaults}
use Rattle.sc_tables.proofs.defaults.defaults.Given as goal

abbrev pub invariant-loop-state : goal.invariant-loop-state
invariant-loop-state l = l.lists ≡ map (defaults l.ids) (range_with_len 0 l.state)
