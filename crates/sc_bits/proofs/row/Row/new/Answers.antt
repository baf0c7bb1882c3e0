use Rattle.sc_bits.proofs.BitLemmas.{bit_of-zeros}
use Rattle.sc_bits.proofs.RowLemmas.{same_row, members-none}
use Rattle.sc_bits.proofs.row.Row.new.Goals as goal

pub returns : goal.returns
returns c = same_row c.args.width _ _ (members-none c.args.width c.in_ok-words.words.items
    (bit_of-zeros c.in_ok-words.words.items _ c.in_ok-words.ensures))
