use Rattle.std.proofs.Common.{◌≡◌, take}
use Rattle.sc_law.specs.Sets.{exit_set}
use Rattle.sc_law.specs.Tree.{state_count}
use Rattle.sc_select.proofs.exits.exit_union.Given as goal

abbrev pub invariant-loop-tr : goal.invariant-loop-tr
invariant-loop-tr l = record {
  own : l.own.width ≡ state_count l.t;
  width : l.all.width ≡ state_count l.t;
  members : l.all.members ≡ exit_set l.t l.h (take l.tr-index l.trs) l.conf.members;
}
