use Rattle.std.proofs.Common.{ap, ◌∙◌, arith, length}
use Rattle.smallvec.proofs.SmallVecLemmas.{items-with_items}
use Rattle.sc_bits.proofs.RowLemmas.{members_of, same_row, members-none}
use Rattle.sc_bits.proofs.row.Row.clear.Goals as goal

pub returns : goal.returns
returns c = rw (← c.self.view_is) (same_row c.self.inside.width _ _
    (ap (members_of c.self.inside.width) (items-with_items c.self.inside.words c.clear_words.new.words (let same = ap length c.as_mut_slice.ensures.value in omega arith))
    ∙ members-none c.self.inside.width c.clear_words.new.words c.clear_words.ensures))
