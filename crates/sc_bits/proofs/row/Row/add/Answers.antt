use Rattle.std.proofs.Common.{ap, ◌∙◌, arith, length}
use Rattle.smallvec.proofs.SmallVecLemmas.{items-with_items}
use Rattle.sc_bits.proofs.RowLemmas.{members_of, same_row, members-set}
use Rattle.sc_bits.proofs.row.Row.add.Goals as goal

pub returns : goal.returns
returns c = rw (← c.self.view_is) (same_row c.self.inside.width _ _
    (ap (members_of c.self.inside.width) (items-with_items c.self.inside.words c.set_bit.new.words (let same = ap length c.as_mut_slice.ensures.value in omega arith))
    ∙ members-set c.self.inside.width c.args.n c.self.inside.words.items c.as_mut_slice.result.now c.set_bit.new.words
    (rw (← c.self.view_is) at c.requires) c.as_mut_slice.ensures.value c.set_bit.ensures))
