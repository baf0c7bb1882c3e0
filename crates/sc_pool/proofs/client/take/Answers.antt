use Rattle.sc_pool.proofs.ClientLemmas.{taken_at}
use Rattle.sc_pool.proofs.client.take.Goals as goal

pub returns : goal.returns
returns c =
    taken_at c.args.clients.now c.args.place c.item_mut.result.now c.take.new.self c.take.result c.item_mut.ensures.value c.take.ensures
