use Rattle.std.proofs.Common.{◌≡◌, drop}
use Rattle.std.specs.List.{list_all}
use Rattle.sc_types.specs.Values.{is_fit_item}
use Rattle.sc_types.proofs.value.+parts.Given as goal

abbrev pub invariant-are_fit_items-loop-value : goal.invariant-are_fit_items-loop-value
invariant-are_fit_items-loop-value l = list_all is_fit_item (drop l.value-index l.values) ≡ list_all is_fit_item l.values
