use Rattle.sc_rooms.proofs.ChainLemmas.{place_of-name}
use Rattle.sc_rooms.proofs.named.Named.name.Goals as goal

pub returns-clause-found : goal.returns-clause-found
returns-clause-found g c =
    let found = rw c.as_slice.ensures.value at c.name_at.ensures in
    rw (← c.self.view_is)
    (place_of-name c.self.inside.names.items c.args.place c.name_at.result c.self.invariant.0.chains.distinct found)
