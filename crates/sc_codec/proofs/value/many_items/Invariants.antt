use Rattle.std.proofs.Common.{◌≡◌, ◌-◌}
use Rattle.sc_codec.specs.Reading.{item_from, many_from}
use Rattle.sc_codec.proofs.Loop.{with_front}
use Rattle.sc_codec.proofs.value.many_items.Given as goal

abbrev pub invariant-loop : goal.invariant-loop
invariant-loop l = with_front l.items (many_from item_from (l.count - l.counter) l.rest)
    ≡ many_from item_from l.count l.bytes
