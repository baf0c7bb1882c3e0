use Rattle.std.proofs.Common.{◌≡◌, ◌∙◌, ap, rules}
use Rattle.sc_law.specs.Legality.{are_orthogonal}
use Rattle.sc_valid.specs.Neighbours.{all_neighbours}
use Rattle.sc_valid.proofs.OrthogonalLemmas.{neighbours_tell}
use Rattle.sc_valid.proofs.index.ChartIndex.all_orthogonal.Goals as goal

pub returns : goal.returns
returns c =
    let same : c.as_slice.result.now ≡ c.in_ok-ordered.ordered.items = search rules in
    c.are_neighbours_orthogonal.ensures
    ∙ ap (all_neighbours (λ a b. are_orthogonal c.args.self.now a.now b.now)) same
    ∙ neighbours_tell (λ p. p.now) c.args.self.now c.args.paths.now _ c.in_ok-ordered.ensures.permutation c.in_ok-ordered.ensures.sorted
