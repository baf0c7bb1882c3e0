use Rattle.sc_pool.specs.Clients.{KeepsMade, left_at}
use Rattle.sc_pool.proofs.locked.Locked.finish_client.Given as goal

abbrev pub invariant-loop : goal.invariant-loop
invariant-loop g l = KeepsMade l.fn.self.clients l.self.clients

abbrev pub decreases-loop : goal.decreases-loop
decreases-loop g l = left_at l.self.clients l.place
