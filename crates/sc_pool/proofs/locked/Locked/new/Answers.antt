use Rattle.sc_pool.proofs.PoolLemmas.{begins_with}
use Rattle.sc_pool.proofs.locked.Locked.new.Goals as goal

pub invariant_of-result : goal.invariant_of-result
invariant_of-result g c =
    (begins_with _ _ _ _ c.requires.no_step c.requires.start c.requires.clients c.requires.budget c.requires.within, c.requires.budget)
