use Rattle.std.proofs.Common.{◌++◌, length}
use Rattle.sc_core.specs.ChangeLists.{counted_of}
use Rattle.sc_core.specs.Makings.{Installs}
use Rattle.sc_core.proofs.body.Body.install_more.Given as goal

abbrev pub invariant-loop-change : goal.invariant-loop-change
invariant-loop-change g l =
    Installs (l.fn.more ++ counted_of l.counted) (l.more ++ counted_of l.counted) l.fn.self l.self

abbrev pub decreases-loop-change : goal.decreases-loop-change
decreases-loop-change g l = length l.more
