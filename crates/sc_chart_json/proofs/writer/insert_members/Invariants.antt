use Rattle.std.proofs.Common.{◌≡◌, drop}
use Rattle.serde_json.specs.View.{members_view}
use Rattle.sc_types.specs.PrintedCharts.{put_members}
use Rattle.sc_chart_json.proofs.writer.insert_members.Given as goal

abbrev pub invariant-loop-member : goal.invariant-loop-member
invariant-loop-member l = put_members (drop l.member-index l.members) (members_view l.object.entries) ≡ put_members l.members (members_view l.initial.object.entries)
