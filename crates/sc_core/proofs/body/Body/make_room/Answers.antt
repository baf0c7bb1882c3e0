use Rattle.std.proofs.Common.{◌++◌, length, subst, sym}
use Rattle.sc_core.specs.ChangeLists.{counted_of, taken_of}
use Rattle.sc_core.specs.Installing.{HaveTargets}
use Rattle.sc_core.proofs.RoomLemmas.{all_room, first_targets, keeps_on, keeps_ready, more_targets, on_ok, same_length}
use Rattle.sc_core.proofs.body.Body.make_room.Goals as goal

pub make_room_first-requires-clause-targets : goal.make_room_first-requires-clause-targets
make_room_first-requires-clause-targets g c =
    let list = c.changes.inside in
    first_targets (length c.args.self.now.sessions.items) c.args.changes.now list.first
    (taken_of list.taken ++ (list.more ++ counted_of list.counted)) c.changes.view_is c.requires.targets

pub make_room_more-requires-clause-targets : goal.make_room_more-requires-clause-targets
make_room_more-requires-clause-targets g c =
    let list = c.changes.inside in
    let same = same_length _ c.make_room_first.new.self c.make_room_first.ensures.keeps in
    more_targets (length c.make_room_first.new.self.sessions.items) c.args.changes.now list.first list.taken list.more
    list.counted c.changes.view_is (subst (λ n. HaveTargets n c.args.changes.now) (sym same) c.requires.targets)

pub returns-clause-room : goal.returns-clause-room
returns-clause-room g c =
    let list = c.changes.inside in
    let h = c.args.self.now in
    let made = keeps_ready h c.reserve.new.self c.requires.agrees c.reserve.ensures.places c.reserve.ensures.spare in
    on_ok c.make_room_more.result _ _ c.make_room_more.ensures.ok (λ rest.
    all_room c.args.changes.now list.first list.taken list.more list.counted c.in_ok-count.count h
    c.make_room_first.new.self c.make_room_more.new.self c.changes.view_is c.in_ok-count.ensures
    (keeps_on h _ c.make_room_first.new.self made c.make_room_first.ensures.keeps) c.make_room_more.ensures.keeps
    c.in_ok-make_room_first.ensures.ok rest c.requires.roomy)
