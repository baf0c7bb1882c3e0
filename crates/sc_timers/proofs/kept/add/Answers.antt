use Rattle.slab.specs.Slab.{get as send_at}
use Rattle.sc_timers.proofs.KeptLemmas.{added, place-within}
use Rattle.sc_timers.proofs.kept.add.Goals as goal

pub insert-requires-clause-place : goal.insert-requires-clause-place
insert-requires-clause-place c =
    rw c.place_of-place.ensures (place-within c.by_due-due.result.first c.by_due-due.result.number
    c.args.kept.now.due.entries)

pub insert-requires-2-clause-place : goal.insert-requires-2-clause-place
insert-requires-2-clause-place c =
    rw c.place_of-place-2.ensures
    (place-within c.by_session-session.result.first c.by_session-session.result.number c.args.kept.now.session.entries)

pub returns-clause-kept : goal.returns-clause-kept
returns-clause-kept c =
    let old = c.args.kept.now in
    rw (
      c.insert.ensures.entries,
      c.insert-2.ensures.entries,
      c.place_of-place.ensures,
      c.place_of-place-2.ensures,
      c.by_due-due.ensures,
      c.by_session-session.ensures,
    )
    (added (send_at old.sends) (send_at c.insert_reserved-key.new.self) old.due.entries old.session.entries
    c.insert_reserved-key.result c.args.send c.requires.kept c.insert_reserved-key.ensures.was_vacant
    c.insert_reserved-key.ensures.updates.changed c.insert_reserved-key.ensures.updates.others c.requires.newest).kept

pub returns-clause-sends : goal.returns-clause-sends
returns-clause-sends c =
    let old = c.args.kept.now in
    rw (c.insert.ensures.entries, c.place_of-place.ensures, c.by_due-due.ensures)
    (added (send_at old.sends) (send_at c.insert_reserved-key.new.self) old.due.entries old.session.entries
    c.insert_reserved-key.result c.args.send c.requires.kept c.insert_reserved-key.ensures.was_vacant
    c.insert_reserved-key.ensures.updates.changed c.insert_reserved-key.ensures.updates.others c.requires.newest).sends
