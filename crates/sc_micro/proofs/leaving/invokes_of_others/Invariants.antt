use Rattle.std.proofs.Common.{◌≡◌, filter, not, take}
use Rattle.sc_law.specs.Leaving.{is_of}
use Rattle.sc_micro.proofs.leaving.invokes_of_others.Given as goal

abbrev pub invariant-loop-invoked : goal.invariant-loop-invoked
invariant-loop-invoked l = l.others ≡ filter (λ i. not (is_of l.s i)) (take l.invoked-index l.invokes)
