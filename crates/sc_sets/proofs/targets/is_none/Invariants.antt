use Rattle.std.proofs.Common.{◌≡◌, drop}
use Rattle.sc_law.specs.Sets.{effective_targets}
use Rattle.sc_sets.specs.Targets.{is_empty}
use Rattle.sc_sets.proofs.targets.is_none.Given as goal

abbrev pub invariant-loop-place : goal.invariant-loop-place
invariant-loop-place l =
    is_empty (effective_targets l.t l.h l.targets) ≡ is_empty (effective_targets l.t l.h (drop l.place l.targets))
