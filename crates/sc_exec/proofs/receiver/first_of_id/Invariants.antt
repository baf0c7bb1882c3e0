use Rattle.std.proofs.Common.{◌≡◌, ◌≤◌, drop, length, option_copied}
use Rattle.sc_exec.specs.Receivers.{first_of_id}
use Rattle.sc_exec.proofs.receiver.first_of_id.Given as goal

abbrev pub invariant-loop-left : goal.invariant-loop-left
invariant-loop-left l = record {
  within : l.left ≤ length l.invokes;
  found : option_copied l.first ≡ first_of_id l.id (drop l.left l.invokes);
}

abbrev pub decreases-loop-left : goal.decreases-loop-left
decreases-loop-left l = l.left
