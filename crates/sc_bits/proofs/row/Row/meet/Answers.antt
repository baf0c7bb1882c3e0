use Rattle.std.proofs.Common.{ap, ◌∙◌, arith, length}
use Rattle.smallvec.proofs.SmallVecLemmas.{items-with_items}
use Rattle.sc_bits.proofs.RowLemmas.{members_of, same_row, members-meet}
use Rattle.sc_bits.proofs.row.Row.meet.Goals as goal

pub returns : goal.returns
returns c = rw (← c.self.view_is, ← c.other.view_is) (same_row c.self.inside.width _ _
    (ap (members_of c.self.inside.width) (items-with_items c.self.inside.words c.meet_words.new.words (let same = ap length c.as_mut_slice.ensures.value in omega arith))
    ∙ members-meet c.self.inside.width c.other.inside.width c.self.inside.words.items c.as_mut_slice.result.now c.meet_words.new.words c.other.inside.words.items c.as_slice.result.now
    (rw (← c.self.view_is, ← c.other.view_is) at c.requires) c.as_mut_slice.ensures.value c.as_slice.ensures c.meet_words.ensures))
