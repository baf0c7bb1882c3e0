use Rattle.std.specs.Prelude.{◌-◌, ◌≡◌}
use Rattle.sc_machine.specs.Accepted.{accepted_steps}
use Rattle.sc_pool.proofs.locked.Locked.finish_steps.Given as goal

abbrev pub invariant-loop : goal.invariant-loop
invariant-loop g l = l.self.clients ≡ l.fn.self.clients

abbrev pub decreases-loop : goal.decreases-loop
decreases-loop g l = g.J.Plan.plan.budget - accepted_steps l.self.entries
