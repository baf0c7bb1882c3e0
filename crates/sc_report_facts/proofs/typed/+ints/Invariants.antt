use Rattle.std.proofs.Common.{IsTrue, take}
use Rattle.std.specs.List.{list_all}
use Rattle.sc_report_facts.specs.Histories.{has_ints}
use Rattle.sc_report_facts.proofs.typed.+ints.Given as goal

abbrev pub invariant-have_ints-loop-item : goal.invariant-have_ints-loop-item
invariant-have_ints-loop-item l = IsTrue (list_all has_ints (take l.item-index l.items))
