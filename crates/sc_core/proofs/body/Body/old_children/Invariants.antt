use Rattle.std.proofs.Common.{◌≡◌, ◌++◌, ◌-◌, drop, length}
use Rattle.sc_core.specs.Parting.{old_left}
use Rattle.sc_core.proofs.body.Body.old_children.Given as goal

abbrev pub invariant-loop-child : goal.invariant-loop-child
invariant-loop-child g l =
    l.left ++ old_left l.self.sessions.items l.changes l.place (drop l.number l.children.items)
    ≡ old_left l.self.sessions.items l.changes l.place l.children.items

abbrev pub decreases-loop-child : goal.decreases-loop-child
decreases-loop-child g l = length l.children.items - l.number
