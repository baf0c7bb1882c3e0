use Rattle.std.proofs.Common.{◌≡◌, drop}
use Rattle.json.specs.Value.{items_view as json_items, members_view as json_members}
use Rattle.sc_chart_json.specs.Trees.{have_number, members_have_number}
use Rattle.sc_chart_json.proofs.tree.+numbers.Given as goal

abbrev pub invariant-have_number-loop-item : goal.invariant-have_number-loop-item
invariant-have_number-loop-item l = have_number (json_items l.items) ≡ have_number (json_items (drop l.item-index l.items))

abbrev pub invariant-members_have_number-loop-member : goal.invariant-members_have_number-loop-member
invariant-members_have_number-loop-member l =
    members_have_number (json_members l.members) ≡ members_have_number (json_members (drop l.member-index l.members))
