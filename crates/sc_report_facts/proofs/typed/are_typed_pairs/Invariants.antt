use Rattle.std.proofs.Common.{take}
use Rattle.std.specs.List.{AllByRecursion}
use Rattle.sc_report_facts.specs.Histories.{IsTypedPair}
use Rattle.sc_report_facts.proofs.typed.are_typed_pairs.Given as goal

abbrev pub invariant-loop-pair : goal.invariant-loop-pair
invariant-loop-pair l = AllByRecursion IsTypedPair (take l.pair-index l.pairs)
