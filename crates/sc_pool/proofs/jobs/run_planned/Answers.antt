use Rattle.std.proofs.Common.{arith}
use Rattle.sc_pool.proofs.PoolLemmas.{nothing_ran}
use Rattle.sc_pool.proofs.jobs.run_planned.Goals as goal

pub returns-in_default : goal.returns-in_default
returns-in_default g c = nothing_ran _ _ c.requires.start (omega (arith, c.requires.within, c.requires.budget))

pub returns-in-Err : goal.returns-in-Err
returns-in-Err g c = nothing_ran _ _ c.requires.start (omega (arith, c.requires.within, c.requires.budget))
