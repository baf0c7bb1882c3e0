use Rattle.std.specs.Prelude.{map}
use Rattle.sc_rooms.proofs.ChainLemmas.{Searches}
use Rattle.sc_rooms.proofs.name_index.place_in_chain.Given as goal

abbrev pub invariant-loop-at : goal.invariant-loop-at
invariant-loop-at g l = Searches (map g.T.HasName.name l.items) l.name l.at

abbrev pub decreases-loop-at : goal.decreases-loop-at
decreases-loop-at g l = l.at
