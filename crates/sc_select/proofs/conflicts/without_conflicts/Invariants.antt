use Rattle.std.proofs.Common.{◌≡◌, filter, not, take}
use Rattle.sc_law.specs.Selection.{conflicts}
use Rattle.sc_law.specs.Tree.{state_count}
use Rattle.sc_select.proofs.conflicts.without_conflicts.Given as goal

abbrev pub invariant-loop-other : goal.invariant-loop-other
invariant-loop-other l = record {
  width : l.into.width ≡ state_count l.t;
  rest : l.rest ≡ filter (λ u. not (conflicts l.t l.h l.conf.members l.tr u)) (take l.other-index l.kept);
}
