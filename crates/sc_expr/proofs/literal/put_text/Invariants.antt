use Rattle.std.proofs.Common.{◌≡◌, ◌++◌, drop}
use Rattle.std.specs.List.{flat_map}
use Rattle.sc_types.specs.Values.{escaped}
use Rattle.sc_expr.proofs.literal.put_text.Given as goal

abbrev pub invariant-loop-byte : goal.invariant-loop-byte
invariant-loop-byte l = l.out ++ flat_map escaped (drop l.byte-index l.text) ≡ l.initial.out ++ flat_map escaped l.text
