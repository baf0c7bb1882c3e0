use Rattle.std.proofs.Common.{◌<◌, ◌∷◌, [], length-append, arith}
use Rattle.sc_family.proofs.LinkLemmas.{names-append, unbound}
use Rattle.sc_family.proofs.family.Family.bind.Goals as goal

pub add-requires-clause-index : goal.add-requires-clause-index
add-requires-clause-index c = rw c.as_slice.ensures.value c.self.invariant.0

pub add-requires-clause-new : goal.add-requires-clause-new
add-requires-clause-new c = rw (c.as_slice.ensures.value, c.bytes.ensures.value)
    (unbound c.args.link.child c.self.inside.links.items (rw (← c.self.view_is) at c.requires.new))

pub invariant_of-self : goal.invariant_of-self
invariant_of-self c =
    let links = c.self.inside.links.items in
    let positive : 0 < c.self.inside.index.spare = rw (← c.self.view_is) at c.requires.room in
    let index = rw (c.as_slice.ensures.value, c.bytes.ensures.value) at c.add.ensures.index in
    rw (c.push_reserved.ensures.items, names-append links c.args.link) (
      index,
      omega (
        arith,
        length-append links (c.args.link ∷ []),
        positive,
        c.add.ensures.spare,
        c.self.invariant.1,
        c.push_reserved.ensures.capacity,
      ),
    )
