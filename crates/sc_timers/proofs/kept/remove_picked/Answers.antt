use Rattle.std.proofs.Common.{◌-◌, refl, arith, ◌∙◌, subst}
use Rattle.slab.specs.Slab.{get as send_at}
use Rattle.sc_timers.specs.Order.{picks, IsPicked}
use Rattle.sc_timers.proofs.SweepLemmas.{picks-rank, sweep-starts, sweep-passes, sweep-takes, sweep-ends, count-gone}
use Rattle.sc_timers.proofs.kept.remove_picked.Goals as goal

pub loop-place-init : goal.loop-place-init
loop-place-init c =
    let kept = c.args.kept.now in
    let rank = c.session_rank-rank.result in
    record {
      sweeps = rw (c.place_of-first.ensures, c.place_of-place.ensures)
          (sweep-starts (picks c.args.pick) rank (send_at kept.sends) kept.due.entries kept.session.entries
          (picks-rank c.args.pick rank c.session_rank-rank.ensures.value) c.requires.kept);
      due = omega arith;
      session = omega arith;
      len = omega arith;
      capacity = refl;
    }

pub loop-place-preserved-then-is_picked_at : goal.loop-place-preserved-then-is_picked_at
loop-place-preserved-then-is_picked_at c =
    let old = c.args.kept.now in
    let now = c.loop-place.kept in
    let new = c.take.new.kept in
    let i = c.loop-place.invariant in
    let picked = subst (λ v. IsPicked v (picks c.args.pick) (send_at now.sends) now.session.entries
    (c.loop-place.place - 1))
    c.if-is_picked_at.true c.is_picked_at.ensures in
    record {
      sweeps = sweep-takes (picks c.args.pick) c.session_rank-rank.result c.place_of-first.result (send_at old.sends)
          (send_at now.sends) (send_at new.sends) old.due.entries now.due.entries now.session.entries new.due.entries
          new.session.entries c.loop-place.place c.due_place-due.result c.take.result i.sweeps c.loop-place-test.true
          picked
          c.due_place-due.ensures c.take.ensures.kept c.take.ensures.send c.take.ensures.sends c.take.ensures.session
          c.take.ensures.fewer;
      due = omega (arith, i.due, c.take.ensures.due_spare);
      session = omega (arith, i.session, c.take.ensures.session_spare);
      len = omega (arith, i.len, c.take.ensures.len);
      capacity = c.take.ensures.capacity ∙ i.capacity;
    }

pub loop-place-preserved : goal.loop-place-preserved
loop-place-preserved c =
    let old = c.args.kept.now in
    let now = c.loop-place.kept in
    let i = c.loop-place.invariant in
    let unpicked = subst (λ v. IsPicked v (picks c.args.pick) (send_at now.sends) now.session.entries
    (c.loop-place.place - 1))
    c.if-is_picked_at.false c.is_picked_at.ensures in
    record {
      sweeps = sweep-passes (picks c.args.pick) c.session_rank-rank.result c.place_of-first.result (send_at old.sends)
          (send_at now.sends) old.due.entries now.due.entries now.session.entries c.loop-place.place i.sweeps
          (omega (arith, c.loop-place-test.true)) unpicked;
      due = i.due;
      session = i.session;
      len = i.len;
      capacity = i.capacity;
    }

pub returns-clause-sends : goal.returns-clause-sends
returns-clause-sends c =
    let old = c.args.kept.now in
    let now = c.loop-place.kept in
    sweep-ends (picks c.args.pick) c.session_rank-rank.result c.place_of-first.result (send_at old.sends)
    (send_at now.sends)
    old.due.entries now.due.entries now.session.entries c.loop-place.place
    (picks-rank c.args.pick c.session_rank-rank.result c.session_rank-rank.ensures.value) c.loop-place.invariant.sweeps
    (omega (arith, c.loop-place-test.false))

pub overflow_sub-result : goal.overflow_sub-result
overflow_sub-result c =
    let old = c.args.kept.now in
    let now = c.loop-place.kept in
    let gone = count-gone (picks c.args.pick) (send_at old.sends) (send_at now.sends) old.due.entries now.due.entries
    c.requires.kept.due c.loop-place.invariant.sweeps.kept.due (returns-clause-sends c) in
    omega (arith, gone, c.len.ensures, c.len-before.ensures)

pub returns-clause-count : goal.returns-clause-count
returns-clause-count c =
    let old = c.args.kept.now in
    let now = c.loop-place.kept in
    let gone = count-gone (picks c.args.pick) (send_at old.sends) (send_at now.sends) old.due.entries now.due.entries
    c.requires.kept.due c.loop-place.invariant.sweeps.kept.due (returns-clause-sends c) in
    omega (arith, gone, c.len.ensures, c.len-before.ensures)
