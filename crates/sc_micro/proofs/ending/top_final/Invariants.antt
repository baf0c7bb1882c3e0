use Rattle.std.proofs.Common.{◌≡◌, ◌==◌, ◌&&◌, drop, find}
use Rattle.sc_law.specs.Configurations.{parent_of}
use Rattle.sc_law.specs.Kinds.{is_final}
use Rattle.sc_law.specs.Tree.{root}
use Rattle.sc_micro.proofs.ending.top_final.Given as goal

abbrev pub invariant-loop-s : goal.invariant-loop-s
invariant-loop-s l =
    find (λ s. is_final l.t s && parent_of l.t s == root l.t) (drop l.s-index l.states)
    ≡ find (λ s. is_final l.t s && parent_of l.t s == root l.t) l.states
