use Rattle.sc_pool.specs.Plans.{planned}
use Rattle.sc_pool.specs.Books.{seen_of}
use Rattle.sc_pool.proofs.jobs.run.Given as goal

abbrev pub ghosts-run_planned : goal.ghosts-run_planned
ghosts-run_planned g a = record { plan = planned a.scripts a.budget ((seen_of g.D.Disk.law) a.book) }
