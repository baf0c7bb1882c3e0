use Rattle.std.proofs.Common.{◌≡◌, Option, None, Some, sym, ◌∙◌}
use Rattle.slab.specs.Slab.{get as send_at}
use Rattle.sc_types.specs.declared.host.TimerImage.{TimerImage}
use Rattle.sc_timers.specs.Order.{by_session, picks}
use Rattle.sc_timers.proofs.EntryLemmas.{of-member}
use Rattle.sc_timers.proofs.SendLemmas.{test-at}
use Rattle.sc_timers.proofs.kept.is_picked_at.Goals as goal

pub unreachable-requires-in_default-get : goal.unreachable-requires-in_default-get
unreachable-requires-in_default-get c =
    let old = c.args.kept.now in
    let of = of-member by_session (send_at old.sends) old.session.entries c.args.session c.in-Some.entry
    c.requires.kept.session (sym c.in-Some.ensures) in
    let none : ◌≡◌ {A = Option TimerImage} None (Some of.send) = c.in_default-get.ensures ∙ of.found in
    cc

pub returns : goal.returns
returns c = record {
  entry = c.in-Some.entry;
  there = sym c.in-Some.ensures;
  picked = test-at (picks c.args.pick) (send_at c.args.kept.now.sends) c.in-Some.entry.key c.in-Some-get.send.now
      (sym c.in-Some-get.ensures)
      ∙ sym c.is_picked.ensures;
}
