use Rattle.sc_core.proofs.NewbornLemmas.{roomier}
use Rattle.sc_core.proofs.newborns.with_more_room.Goals as goal

pub returns-clause-same : goal.returns-clause-same
returns-clause-same c = roomier c.args.session c.reserve.new.self c.reserve.ensures.items
