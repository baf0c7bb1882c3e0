use Rattle.std.proofs.Common.{take, ap, ◌∙◌, rules}
use Rattle.std.proofs.Math.Seq.{take-length}
use Rattle.sc_valid.proofs.OrthogonalLemmas.{moved}
use Rattle.sc_valid.proofs.target.in_order.Goals as goal

pub returns-clause-permutation : goal.returns-clause-permutation
returns-clause-permutation c =
    moved (λ p. p.now) c.args.paths.now _ _
    (c.loop-path.invariant ∙ ap (λ n. take n c.args.paths.now) (search rules) ∙ take-length c.args.paths.now) c.sort_unstable.ensures.permutation
