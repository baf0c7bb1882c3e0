use Rattle.std.proofs.Common.{◌+◌, ◌++◌, ◌&&◌, drop, nat_lt, not, ap, ◌∙◌}
use Rattle.sc_bits.specs.Rows.{RowOf}
use Rattle.sc_law.specs.Fitting.{rises}
use Rattle.sc_law.specs.Kinds.{is_history}
use Rattle.sc_law.specs.Tree.{state_count}
use Rattle.sc_turn.proofs.Rising.{all-behind, row-more, states-rise}
use Rattle.sc_turn.proofs.rows.row_of.Goals as goal

pub loop-s-preserved : goal.loop-s-preserved
loop-s-preserved c =
    let k = c.args.t.now in
    let ss = c.args.states.now in
    let i = c.loop-s.s-index in
    record {
      width = ap (λ (r : RowOf). r.width) c.add.ensures ∙ c.loop-s.invariant.width;
      members = ap (λ (r : RowOf). r.members ++ drop (i + 1) ss) c.add.ensures
          ∙ row-more c.loop-s.row.members ss i (states-rise (rises ss) _ c.requires) c.loop-s-test.true c.loop-s.invariant.members;
      within = all-behind (λ s. nat_lt s (state_count k) && not (is_history k s)) ss i c.loop-s-test.true c.loop-s.invariant.within;
    }
