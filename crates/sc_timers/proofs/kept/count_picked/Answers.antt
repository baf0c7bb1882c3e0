use Rattle.std.proofs.Common.{◌-◌, ◌+◌, ◌≡◌, suc, drop, arith, ap, sym, ◌∙◌}
use Rattle.slab.specs.Slab.{get as send_at}
use Rattle.sc_timers.specs.Order.{picks, picked_at, passing, one}
use Rattle.sc_timers.proofs.KeptLemmas.{place-within}
use Rattle.sc_timers.proofs.SendLemmas.{none-after-place}
use Rattle.sc_timers.proofs.SweepLemmas.{picks-rank, count-more, count-ends}
use Rattle.sc_timers.proofs.kept.count_picked.Goals as goal

pub loop-place-init : goal.loop-place-init
loop-place-init c =
    let kept = c.args.kept.now in
    let rank = c.session_rank-rank.result in
    let none = none-after-place (picks c.args.pick) rank (send_at kept.sends) kept.session.entries
    (picks-rank c.args.pick rank c.session_rank-rank.ensures.value) c.requires.kept.session
    c.requires.kept.session_rising in
    record {
      count = rw c.place_of-end.ensures (sym none);
      within = rw c.place_of-end.ensures (place-within (rank + 1) 0 kept.session.entries);
      small = omega arith;
    }

pub loop-place-preserved-then-is_picked_at : goal.loop-place-preserved-then-is_picked_at
loop-place-preserved-then-is_picked_at c =
    let kept = c.args.kept.now in
    let place = c.loop-place.place in
    let next : suc (place - 1) ≡ place = omega (arith, c.loop-place-test.true) in
    let same = ap (λ n. passing (picked_at (picks c.args.pick) (send_at kept.sends)) (drop n kept.session.entries))
    next in
    let more = count-more _ (picks c.args.pick) (send_at kept.sends) kept.session.entries (place - 1)
    c.is_picked_at.ensures in
    let yes = ap one c.if-is_picked_at.true in
    record {
      count = omega (arith, c.loop-place.invariant.count, same, more, yes);
      within = omega (arith, c.loop-place.invariant.within);
      small = omega (arith, c.loop-place.invariant.small, c.loop-place-test.true);
    }

pub loop-place-preserved : goal.loop-place-preserved
loop-place-preserved c =
    let kept = c.args.kept.now in
    let place = c.loop-place.place in
    let next : suc (place - 1) ≡ place = omega (arith, c.loop-place-test.true) in
    let same = ap (λ n. passing (picked_at (picks c.args.pick) (send_at kept.sends)) (drop n kept.session.entries))
    next in
    let more = count-more _ (picks c.args.pick) (send_at kept.sends) kept.session.entries (place - 1)
    c.is_picked_at.ensures in
    let no = ap one c.if-is_picked_at.false in
    record {
      count = omega (arith, c.loop-place.invariant.count, same, more, no);
      within = omega (arith, c.loop-place.invariant.within);
      small = omega (arith, c.loop-place.invariant.small, c.loop-place-test.true);
    }

pub returns : goal.returns
returns c =
    let kept = c.args.kept.now in
    let rank = c.session_rank-rank.result in
    c.loop-place.invariant.count
    ∙ count-ends (picks c.args.pick) rank (send_at kept.sends) kept.due.entries kept.session.entries c.loop-place.place
    (picks-rank c.args.pick rank c.session_rank-rank.ensures.value) c.requires.kept
    (omega (arith, c.loop-place-test.false, c.place_of-first.ensures))
