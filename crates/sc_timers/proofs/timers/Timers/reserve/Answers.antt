use Rattle.std.proofs.Common.{ℕ, Option, arith, ap, sym, subst}
use Rattle.slab.specs.Slab.{get as send_at, slab_len}
use Rattle.sc_types.specs.declared.host.TimerImage.{TimerImage}
use Rattle.sc_timers.specs.Order.{AreKept}
use Rattle.sc_timers.proofs.timers.Timers.reserve.Goals as goal

pub invariant_of-self-in_err-reserve-3 : goal.invariant_of-self-in_err-reserve-3
invariant_of-self-in_err-reserve-3 c =
    let kept = c.self.inside.kept in
    let Held : (ℕ → Option TimerImage) → Type 0 = λ at. AreKept at kept.due.entries kept.session.entries in
    let len = ap slab_len c.reserve-3.ensures.rest_kept in
    rw (c.reserve.ensures.entries, c.reserve-2.ensures.entries) (
      subst Held (sym (ap send_at c.reserve-3.ensures.rest_kept)) c.self.invariant.0,
      omega (arith, c.reserve.ensures.spare, c.self.invariant.1),
      omega (arith, c.reserve-2.ensures.spare, c.self.invariant.2),
      omega (arith, len, c.reserve-3.ensures.capacity, c.self.invariant.3),
    )

pub invariant_of-self-2 : goal.invariant_of-self-2
invariant_of-self-2 c =
    let kept = c.self.inside.kept in
    let Held : (ℕ → Option TimerImage) → Type 0 = λ at. AreKept at kept.due.entries kept.session.entries in
    rw (c.reserve.ensures.entries, c.reserve-2.ensures.entries) (
      subst Held (sym (ap send_at c.reserve-3.ensures.rest_kept)) c.self.invariant.0,
      c.in_ok-reserve.ensures.ok,
      c.in_ok-reserve-2.ensures.ok,
      c.in_ok-reserve-3.ensures.room,
    )
