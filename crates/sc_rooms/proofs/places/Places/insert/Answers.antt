use Rattle.std.proofs.Common.{arith, sym}
use Rattle.sc_rooms.proofs.PlaceLemmas.{with-member, insert-rank, ascending-with}
use Rattle.sc_rooms.proofs.places.Places.insert.Goals as goal

pub returns-then-is_member-clause-places : goal.returns-then-is_member-clause-places
returns-then-is_member-clause-places c =
    let found = c.if-is_member.ensures in
    rw (← c.self.view_is) (sym (with-member c.args.place 0 c.self.inside.places.items c.self.invariant (sym found)))

pub invariant_of-self : goal.invariant_of-self
invariant_of-self c =
    let missing = c.if-is_member.ensures in
    let items = c.self.inside.places.items in
    rw (c.in-Ok.ensures.items, c.rank-rank.ensures.value, insert-rank c.args.place items (sym missing))
    (ascending-with c.args.place 0 c.self.inside.places.items (omega arith) c.self.invariant)

pub returns-clause-places : goal.returns-clause-places
returns-clause-places c =
    let missing = c.if-is_member.ensures in
    rw (← c.self.view_is, c.in-Ok.ensures.items, c.rank-rank.ensures.value)
    (insert-rank c.args.place c.self.inside.places.items (sym missing))
