use Rattle.std.proofs.Common.{◌≡◌, ◌++◌, drop}
use Rattle.sc_law.specs.Configurations.{named}
use Rattle.sc_tables.proofs.ids.StateIds.named.Given as goal

abbrev pub invariant-loop-id : goal.invariant-loop-id
invariant-loop-id l = l.states ++ named l.self (drop l.id-index l.ids) ≡ named l.self l.ids
