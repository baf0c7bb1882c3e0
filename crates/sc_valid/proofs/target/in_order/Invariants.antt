use Rattle.std.proofs.Common.{◌≡◌, map, take}
use Rattle.sc_valid.proofs.target.in_order.Given as goal

abbrev pub invariant-loop-path : goal.invariant-loop-path
invariant-loop-path l = map (λ p. p.now) l.ordered.items ≡ take l.path-index l.paths
