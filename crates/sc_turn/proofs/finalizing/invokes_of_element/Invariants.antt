use Rattle.std.proofs.Common.{◌≡◌, ◌==◌, ◌&&◌, ◌++◌, drop, filter}
use Rattle.sc_types.specs.declared.session.Invoked.{Invoked}
use Rattle.sc_turn.proofs.finalizing.invokes_of_element.Given as goal

abbrev pub invariant-loop-invoked : goal.invariant-loop-invoked
invariant-loop-invoked l =
    l.found ++ filter (λ (i : Invoked). i.state == l.s && i.place == l.place) (drop l.invoked-index l.invokes)
    ≡ filter (λ (i : Invoked). i.state == l.s && i.place == l.place) l.invokes
