use Rattle.std.proofs.Common.{◌≡◌, length}
use Rattle.sc_law.specs.Legality.{are_orthogonal}
use Rattle.sc_valid.specs.Neighbours.{all_neighbours}
use Rattle.sc_valid.proofs.index.ChartIndex.are_neighbours_orthogonal.Given as goal

abbrev pub invariant-loop-rest : goal.invariant-loop-rest
invariant-loop-rest l =
    all_neighbours (λ a b. are_orthogonal l.self a.now b.now) l.rest ≡ all_neighbours (λ a b. are_orthogonal l.self a.now b.now) l.paths

abbrev pub decreases-loop-rest : goal.decreases-loop-rest
decreases-loop-rest l = length l.rest
