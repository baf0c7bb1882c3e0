use Rattle.sc_bits.proofs.RowLemmas.{meets-members}
use Rattle.sc_bits.proofs.row.Row.meets.Goals as goal

pub returns : goal.returns
returns c = rw (← c.self.view_is, ← c.other.view_is) (meets-members c.self.inside.width c.other.inside.width c.self.inside.words.items c.other.inside.words.items c.words_meet.result
    (rw (← c.self.view_is, ← c.other.view_is) at c.requires) c.self.invariant
    (rw (c.as_slice.ensures, c.as_slice-2.ensures) at c.words_meet.ensures))
