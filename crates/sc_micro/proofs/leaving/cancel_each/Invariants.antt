use Rattle.std.proofs.Common.{◌≡◌, ◌++◌, filter, map, take}
use Rattle.sc_types.specs.declared.effect.Effect.TheVariants.{CancelChild}
use Rattle.sc_types.specs.declared.session.Invoked.{Invoked}
use Rattle.sc_law.specs.Leaving.{is_of}
use Rattle.sc_micro.proofs.leaving.cancel_each.Given as goal

abbrev pub invariant-loop-invoked : goal.invariant-loop-invoked
invariant-loop-invoked l =
    l.effects ≡ l.fn.effects ++ map (λ (i : Invoked). CancelChild i.child)
    (filter (is_of l.s) (take l.invoked-index l.invokes))
