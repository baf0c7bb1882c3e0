use Rattle.std.proofs.Common.{◌≡◌, ◌++◌, drop, find}
use Rattle.std.specs.List.{filter_map}
use Rattle.sc_chart_json.specs.Trees.{view}
use Rattle.sc_expr.specs.Reading.{expr_of}
use Rattle.sc_types.specs.ChartTexts.{is_bad_code, member_at}
use Rattle.sc_chart_json.proofs.members.read_all.Given as goal

abbrev pub invariant-loop-attribute : goal.invariant-loop-attribute
invariant-loop-attribute l = record {
  bad : find (is_bad_code (expr_of l.profile) l.tag (view l.value)) l.attributes ≡ find (is_bad_code (expr_of l.profile) l.tag (view l.value)) (drop l.attribute-index l.attributes);
  kept : l.members ++ filter_map (member_at (expr_of l.profile) l.tag (view l.value)) (drop l.attribute-index l.attributes) ≡ filter_map (member_at (expr_of l.profile) l.tag (view l.value)) l.attributes;
}
