use Rattle.std.proofs.Common.{sym}
use Rattle.sc_core.proofs.RoomLemmas.{all_made, more_room, target_there}
use Rattle.sc_core.proofs.body.Body.make_room_more.Goals as goal

pub make_room_for-requires-clause-target : goal.make_room_for-requires-clause-target
make_room_for-requires-clause-target g c =
    target_there c.args.more.now c.args.count c.loop-change.place c.args.self.now c.loop-change.self
    c.in-Some.change.now (sym c.in-Some.ensures.value) c.loop-change.invariant

pub loop-change-preserved : goal.loop-change-preserved
loop-change-preserved g c =
    more_room c.args.more.now c.args.count c.loop-change.place c.args.self.now c.loop-change.self
    c.make_room_for.new.self c.in-Some.change.now (sym c.in-Some.ensures.value) c.loop-change.invariant
    c.in_ok-make_room_for.ensures.keeps c.in_ok-make_room_for.ensures.charts c.in_ok-make_room_for.ensures.ok

pub returns-clause-ok : goal.returns-clause-ok
returns-clause-ok g c =
    all_made c.args.more.now c.args.count c.loop-change.place c.args.self.now c.loop-change.self
    (sym c.in_default.ensures.value) c.loop-change.invariant
