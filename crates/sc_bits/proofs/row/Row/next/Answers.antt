use Rattle.std.proofs.Common.{ap, length, arith}
use Rattle.sc_bits.proofs.RowLemmas.{next-member, next-within}
use Rattle.sc_bits.proofs.NumberLemmas.{numbers-ascending}
use Rattle.sc_bits.specs.Words.{bit_of}
use Rattle.sc_bits.proofs.row.Row.next.Goals as goal

pub next_bit-requires : goal.next_bit-requires
next_bit-requires c = let same = ap length c.as_slice.ensures in omega arith

pub returns : goal.returns
returns c =
    let told = rw c.as_slice.ensures at c.next_bit.ensures in
    rw (← c.self.view_is) record {
      value = next-member c.self.inside.width c.args.from c.self.inside.words.items c.next_bit.result c.self.invariant told;
      within = next-within c.self.inside.width c.args.from c.self.inside.words.items c.next_bit.result c.self.invariant told;
      form = numbers-ascending (bit_of c.self.inside.words.items) 0 0 c.self.inside.width c.self.inside.width (omega arith) (omega arith);
    }
