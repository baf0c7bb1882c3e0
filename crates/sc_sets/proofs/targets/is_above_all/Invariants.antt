use Rattle.std.proofs.Common.{◌≡◌, drop}
use Rattle.sc_law.specs.Sets.{effective_targets, is_above_all}
use Rattle.sc_sets.proofs.targets.is_above_all.Given as goal

abbrev pub invariant-loop-place : goal.invariant-loop-place
invariant-loop-place l =
    is_above_all l.t (effective_targets l.t l.h l.targets) l.above
    ≡ is_above_all l.t (effective_targets l.t l.h (drop l.place l.targets)) l.above
