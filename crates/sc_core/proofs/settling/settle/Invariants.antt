use Rattle.std.proofs.Common.{◌≡◌, ◌≤◌, length}
use Rattle.sc_core.specs.Bodies.{session_image}
use Rattle.sc_core.proofs.settling.settle.Given as goal

abbrev pub invariant-loop-event : goal.invariant-loop-event
invariant-loop-event l = record {
  image : session_image l.session ≡ session_image l.initial.session;
  queued : l.session.queued ≡ l.initial.session.queued;
  children : l.session.children ≡ l.initial.session.children;
  spare : l.initial.session.failures.spare ≤ l.session.failures.spare;
}

abbrev pub decreases-loop-event : goal.decreases-loop-event
decreases-loop-event l = length l.session.failures.items
