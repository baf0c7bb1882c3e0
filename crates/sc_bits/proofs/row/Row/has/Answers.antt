use Rattle.std.proofs.Common.{ap, sym, ◌∙◌}
use Rattle.sc_bits.specs.Words.{bit_of}
use Rattle.sc_bits.proofs.RowLemmas.{has-member}
use Rattle.sc_bits.proofs.row.Row.has.Goals as goal

pub returns : goal.returns
returns c = rw (← c.self.view_is) (c.has_bit.ensures ∙ ap (λ words. bit_of words c.args.n) c.as_slice.ensures
    ∙ sym (has-member c.self.inside.width c.args.n c.self.inside.words.items (rw (← c.self.view_is) at c.requires)))
