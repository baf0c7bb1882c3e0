use Rattle.std.proofs.Common.{◌≡◌, drop}
use Rattle.std.specs.List.{list_any}
use Rattle.sc_law.specs.Selection.{gives_way}
use Rattle.sc_law.specs.Tree.{state_count}
use Rattle.sc_select.proofs.conflicts.gives_way_to_one.Given as goal

abbrev pub invariant-loop-other : goal.invariant-loop-other
invariant-loop-other l = record {
  width : l.into.width ≡ state_count l.t;
  rest : list_any (gives_way l.t l.h l.conf.members l.tr) (drop l.other-index l.kept)
      ≡ list_any (gives_way l.t l.h l.conf.members l.tr) l.kept;
}
