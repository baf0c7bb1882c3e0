use Rattle.std.proofs.Common.{sym, ◌∙◌}
use Rattle.sc_law.specs.Legality.{are_orthogonal}
use Rattle.sc_valid.proofs.PairLemmas.{neighbours_end}
use Rattle.sc_valid.proofs.index.ChartIndex.are_neighbours_orthogonal.Goals as goal

pub returns : goal.returns
returns c =
    sym (neighbours_end (λ a b. are_orthogonal c.args.self.now a.now b.now) c.loop-rest.rest.now c.in_default.len_below)
    ∙ c.loop-rest.invariant
