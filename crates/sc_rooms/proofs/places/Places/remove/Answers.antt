use Rattle.std.proofs.Common.{◌<◌, arith, sym}
use Rattle.std.specs.VecDeque.{deque_len}
use Rattle.sc_rooms.proofs.PlaceLemmas.{remove-rank, rank-within, without-none, ascending-filter}
use Rattle.sc_rooms.proofs.places.Places.remove.Goals as goal

pub invariant_of-self : goal.invariant_of-self
invariant_of-self c =
    let found = c.if-is_member.ensures in
    let removed = remove-rank c.args.place 0 c.self.inside.places.items c.self.invariant (sym found) in
    rw (c.in-Some.ensures.items, c.rank-rank.ensures.value, removed)
    (ascending-filter _ 0 c.self.inside.places.items c.self.invariant)

pub unreachable-requires : goal.unreachable-requires
unreachable-requires c =
    let found = c.if-is_member.ensures in
    let items = c.self.inside.places.items in
    let below = rank-within c.args.place items (sym found) in
    let within : c.rank-rank.result < deque_len c.self.inside.places =
    omega (arith, c.rank-rank.ensures.value, below, c.self.inside.places.ok) in
    let none = c.in-None.ensures.variant.1 within in
    cc

pub returns-in-Some-clause-places : goal.returns-in-Some-clause-places
returns-in-Some-clause-places c =
    let found = c.if-is_member.ensures in
    rw (← c.self.view_is, c.in-Some.ensures.items, c.rank-rank.ensures.value)
    (remove-rank c.args.place 0 c.self.inside.places.items c.self.invariant (sym found))

pub returns-else-is_member-clause-places : goal.returns-else-is_member-clause-places
returns-else-is_member-clause-places c =
    let missing = c.if-is_member.ensures in
    rw (← c.self.view_is) (sym (without-none c.args.place c.self.inside.places.items (sym missing)))
