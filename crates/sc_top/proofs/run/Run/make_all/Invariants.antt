use Rattle.std.proofs.Common.{List, ◌++◌, length}
use Rattle.sc_top.specs.Run.{Made, of_client}
use Rattle.sc_top.specs.Running.{Goes, GoesOn, HasStepped, run_of}
use Rattle.sc_top.proofs.run.Run.make_all.Given as goal

abbrev pub invariant-loop-command : goal.invariant-loop-command
invariant-loop-command g l = record {
  goes : (cs : List Made) → Goes g.D.Disk.law (run_of l.fn.self.book l.fn.self.left) (run_of l.self.book l.self.left)
      (of_client l.client l.fn.commands ++ cs) (of_client l.client l.left ++ cs);
  stepped : HasStepped (run_of l.self.book l.self.left);
  on : GoesOn g.D.Disk.law l.fn.self.book l.self.book;
}

abbrev pub decreases-loop-command : goal.decreases-loop-command
decreases-loop-command g l = length l.left
