use Rattle.std.proofs.Common.{◌≡◌, ◌-◌}
use Rattle.sc_codec.specs.Reading.{pair_from, many_from}
use Rattle.sc_codec.proofs.Loop.{with_front}
use Rattle.sc_codec.proofs.pair.many_pairs.Given as goal

abbrev pub invariant-loop : goal.invariant-loop
invariant-loop l = with_front l.pairs (many_from pair_from (l.count - l.counter) l.rest)
    ≡ many_from pair_from l.count l.bytes
