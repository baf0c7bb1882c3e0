use Rattle.std.proofs.Common.{List, ◌++◌, ◌+◌}
use Rattle.std.specs.Vec.Iter.{into_iter_items}
use Rattle.sc_top.specs.Run.{Made, of_clients}
use Rattle.sc_top.specs.Running.{Goes, GoesOn, HasStepped, run_of}
use Rattle.sc_top.proofs.run.Run.make_clients.Given as goal

abbrev pub invariant-loop-commands : goal.invariant-loop-commands
invariant-loop-commands g l = record {
  goes : (cs : List Made) → Goes g.D.Disk.law (run_of l.fn.self.book l.fn.self.left) (run_of l.self.book l.self.left)
      (of_clients 1 l.fn.clients ++ cs) (of_clients (l.client + 1) (into_iter_items l.commands-iterator) ++ cs);
  stepped : HasStepped (run_of l.self.book l.self.left);
  on : GoesOn g.D.Disk.law l.fn.self.book l.self.book;
}
