use Rattle.std.proofs.Common.{take}
use Rattle.std.specs.List.{AllByRecursion}
use Rattle.sc_report_facts.specs.Histories.{IsTypedEntry}
use Rattle.sc_report_facts.proofs.typed.are_typed.Given as goal

abbrev pub invariant-loop-entry : goal.invariant-loop-entry
invariant-loop-entry l = AllByRecursion IsTypedEntry (take l.entry-index l.history)
