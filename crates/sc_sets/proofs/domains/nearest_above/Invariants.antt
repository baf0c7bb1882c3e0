use Rattle.std.proofs.Common.{◌≡◌, ◌&&◌, ◌<◌, [], ◌∷◌, find, IfSome}
use Rattle.std.specs.Option.{option_map_or}
use Rattle.sc_law.specs.Kinds.{is_compound}
use Rattle.sc_law.specs.Sets.{effective_targets, is_above_all}
use Rattle.sc_law.specs.Tree.{ancestors, state_count}
use Rattle.sc_sets.proofs.Climbing.{left}
use Rattle.sc_sets.proofs.domains.nearest_above.Given as goal

abbrev pub invariant-loop-next : goal.invariant-loop-next
invariant-loop-next l = record {
  within : IfSome l.next (λ p. p < state_count l.t);
  rest :
      find (λ a. is_compound l.t a && is_above_all l.t (effective_targets l.t l.h l.targets) a) (ancestors l.t l.s)
      ≡ find (λ a. is_compound l.t a && is_above_all l.t (effective_targets l.t l.h l.targets) a)
      (option_map_or (λ p. p ∷ ancestors l.t p) l.next []);
}

abbrev pub decreases-loop-next : goal.decreases-loop-next
decreases-loop-next l = left l.next
