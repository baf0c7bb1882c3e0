use Rattle.std.proofs.Common.{◌≡◌, ◌-◌, length, drop, count_by}
use Rattle.sc_types.specs.Sends.{is_send}
use Rattle.sc_core.proofs.CountLemmas.{counted}
use Rattle.sc_core.proofs.body.Body.pending.Given as goal

abbrev pub invariant-loop-change : goal.invariant-loop-change
invariant-loop-change g l =
    counted l.session l.id (drop l.place l.draft.changes) l.count
    ≡ counted l.session l.id l.draft.changes (count_by (is_send l.session l.id) l.self.timers.sends)

abbrev pub decreases-loop-change : goal.decreases-loop-change
decreases-loop-change g l = length l.draft.changes - l.place
