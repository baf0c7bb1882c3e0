use Rattle.std.proofs.Common.{ap, ◌∙◌, arith, length}
use Rattle.smallvec.proofs.SmallVecLemmas.{items-with_items}
use Rattle.sc_bits.proofs.RowLemmas.{members_of, same_row, members-clear}
use Rattle.sc_bits.proofs.row.Row.take.Goals as goal

pub returns : goal.returns
returns c = rw (← c.self.view_is) (same_row c.self.inside.width _ _
    (ap (members_of c.self.inside.width) (items-with_items c.self.inside.words c.clear_bit.new.words (let same = ap length c.as_mut_slice.ensures.value in omega arith))
    ∙ members-clear c.self.inside.width c.args.n c.self.inside.words.items c.as_mut_slice.result.now c.clear_bit.new.words c.as_mut_slice.ensures.value c.clear_bit.ensures))
