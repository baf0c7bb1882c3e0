use Rattle.std.proofs.Common.{◌≡◌, ◌≤◌}
use Rattle.slab.specs.Slab.{get as send_at, slab_len}
use Rattle.sc_timers.specs.Order.{picks}
use Rattle.sc_timers.proofs.SweepLemmas.{Sweeps}
use Rattle.sc_timers.proofs.kept.remove_picked.Given as goal

abbrev pub invariant-loop-place : goal.invariant-loop-place
invariant-loop-place l = record {
  sweeps : Sweeps (picks l.pick) l.rank l.first (send_at l.initial.kept.sends) (send_at l.kept.sends)
      l.initial.kept.due.entries l.kept.due.entries l.kept.session.entries l.place;
  due : l.initial.kept.due.spare ≤ l.kept.due.spare;
  session : l.initial.kept.session.spare ≤ l.kept.session.spare;
  len : slab_len l.kept.sends ≤ slab_len l.initial.kept.sends;
  capacity : l.kept.sends.capacity ≡ l.initial.kept.sends.capacity;
}

abbrev pub decreases-loop-place : goal.decreases-loop-place
decreases-loop-place l = l.place
