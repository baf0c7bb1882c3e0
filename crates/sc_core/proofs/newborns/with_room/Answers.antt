use Rattle.sc_core.proofs.NewbornLemmas.{roomier_same}
use Rattle.sc_core.proofs.newborns.with_room.Goals as goal

pub returns-clause-same : goal.returns-clause-same
returns-clause-same c = roomier_same c.args.session
