use Rattle.std.proofs.Common.{◌≡◌, ◌++◌, flat_map, take}
use Rattle.std.specs.List.{AllByRecursion}
use Rattle.sc_base.specs.Text.{IsPlainName}
use Rattle.sc_codec.specs.Bodies.{pair_field}
use Rattle.sc_codec.proofs.pair.put_pairs.Given as goal

abbrev pub invariant-loop-name : goal.invariant-loop-name
invariant-loop-name l = record {
  field : l.out.items ≡ l.initial.out.items ++ flat_map pair_field (take l.name-index l.pairs);
  form : AllByRecursion (λ p. IsPlainName p.0) (take l.name-index l.pairs);
}
