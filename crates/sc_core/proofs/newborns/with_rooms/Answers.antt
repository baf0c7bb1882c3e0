use Rattle.std.proofs.Common.{◌∙◌}
use Rattle.sc_core.proofs.NewbornLemmas.{goes_alike, goes_next, roomy_alike}
use Rattle.sc_core.proofs.newborns.with_rooms.Goals as goal

pub loop-change-preserved : goal.loop-change-preserved
loop-change-preserved g c =
    goes_next c.has_past-gets.result c.args.count c.args.changes c.loop-change.changes c.loop-change.roomy c.pop_front.new.self
    _ c.in-Some.change _ c.in-Some.ensures c.in_ok-with_room_in.ensures.alike c.in_ok-with_room_in.ensures.room
    c.in_ok-push.ensures.ok c.loop-change.invariant

pub returns-clause-alike : goal.returns-clause-alike
returns-clause-alike g c =
    goes_alike c.has_past-gets.result c.args.count c.args.changes c.loop-change.changes c.loop-change.roomy
    c.in_default.ensures.0 c.loop-change.invariant

pub returns-clause-roomy : goal.returns-clause-roomy
returns-clause-roomy g c = λ h long can.
    let alike = goes_alike c.has_past-gets.result c.args.count c.args.changes c.loop-change.changes c.loop-change.roomy
    c.in_default.ensures.0 c.loop-change.invariant in
    roomy_alike c.args.first c.args.count c.args.changes c.loop-change.roomy h alike long can
    (λ past. c.loop-change.invariant.rooms (c.has_past-gets.ensures ∙ past))
