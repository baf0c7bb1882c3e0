use Rattle.std.proofs.Common.{length}
use Rattle.sc_pool.specs.SetUps.{MakesPart}
use Rattle.sc_pool.specs.Books.{seen_of}
use Rattle.sc_pool.proofs.set_up.set_up.Given as goal

abbrev pub invariant-loop-command : goal.invariant-loop-command
invariant-loop-command g l =
    MakesPart l.fn.commands l.left ((seen_of g.D.Disk.law) l.fn.book) ((seen_of g.D.Disk.law) l.book)

abbrev pub decreases-loop-command : goal.decreases-loop-command
decreases-loop-command g l = length l.left
