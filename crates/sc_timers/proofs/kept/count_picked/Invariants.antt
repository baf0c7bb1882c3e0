use Rattle.std.proofs.Common.{◌≡◌, ◌+◌, ◌≤◌, length, drop}
use Rattle.slab.specs.Slab.{get as send_at}
use Rattle.sc_timers.specs.Order.{picks, picked_at, passing}
use Rattle.sc_timers.proofs.kept.count_picked.Given as goal

abbrev pub invariant-loop-place : goal.invariant-loop-place
invariant-loop-place l = record {
  count : l.count ≡ passing (picked_at (picks l.pick) (send_at l.kept.sends)) (drop l.place l.kept.session.entries);
  within : l.place ≤ length l.kept.session.entries;
  small : l.count + l.place ≤ l.end;
}

abbrev pub decreases-loop-place : goal.decreases-loop-place
decreases-loop-place l = l.place
