use Rattle.std.proofs.Common.{List}
use Rattle.sc_top.specs.Run.{Made}
use Rattle.sc_top.specs.Running.{Goes, GoesOn, run_of}
use Rattle.sc_top.proofs.run.Run.step_all.Given as goal

abbrev pub invariant-loop-self : goal.invariant-loop-self
invariant-loop-self g l = record {
  goes : (cs : List Made) → Goes g.D.Disk.law (run_of l.initial.self.book l.initial.self.left) (run_of l.self.book l.self.left) cs cs;
  on : GoesOn g.D.Disk.law l.initial.self.book l.self.book;
}

abbrev pub decreases-loop-self : goal.decreases-loop-self
decreases-loop-self g l = l.self.left
