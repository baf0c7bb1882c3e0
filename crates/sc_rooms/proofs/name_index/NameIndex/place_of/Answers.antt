use Rattle.std.proofs.Common.{map}
use Rattle.sc_rooms.proofs.ChainLemmas.{place_of-found}
use Rattle.sc_rooms.proofs.name_index.NameIndex.place_of.Goals as goal

pub returns-clause-value : goal.returns-clause-value
returns-clause-value g c =
    place_of-found c.args.name.now (map g.T.HasName.name c.args.items.now) c.place_in_chain.result
    c.requires.chains.distinct c.place_in_chain.ensures
