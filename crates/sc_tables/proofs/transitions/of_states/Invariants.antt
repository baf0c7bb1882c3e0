use Rattle.std.proofs.Common.{take}
use Rattle.sc_tables.specs.Built.{HasOwn}
use Rattle.sc_tables.proofs.transitions.of_states.Given as goal

abbrev pub invariant-loop-number : goal.invariant-loop-number
invariant-loop-number l = HasOwn (take l.number l.sources) l.count l.lists
