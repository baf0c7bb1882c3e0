use Rattle.std.proofs.Common.{◌-◌, length}
use Rattle.sc_core.specs.Bodies.{image}
use Rattle.sc_core.proofs.TickLemmas.{Ticks}
use Rattle.sc_core.proofs.body.Body.draft_advance.Given as goal

abbrev pub invariant-loop-send : goal.invariant-loop-send
invariant-loop-send g l = Ticks (image l.self) l.now l.draft

abbrev pub decreases-loop-send : goal.decreases-loop-send
decreases-loop-send g l = length l.self.timers.sends - length l.draft.sent
