use Rattle.std.proofs.Common.{◌≡◌, ◌++◌, length, flat_map, take}
use Rattle.sc_codec.specs.Bodies.{value_field}
use Rattle.sc_codec.proofs.value.+put.Given as goal
use Rattle.sc_frame.specs.Fields.{number_field}

abbrev pub invariant-put_items-loop-item : goal.invariant-put_items-loop-item
invariant-put_items-loop-item l =
    l.out.items ≡ l.fn.out.items ++ (number_field 2 (length l.items) ++ flat_map value_field
    (take l.item-index l.items))
