use Rattle.std.proofs.Common.{◌≡◌, Option, None, Some, sym, ◌∙◌}
use Rattle.slab.specs.Slab.{get as send_at}
use Rattle.sc_types.specs.declared.host.TimerImage.{TimerImage}
use Rattle.sc_timers.specs.Order.{by_session}
use Rattle.sc_timers.proofs.EntryLemmas.{of-member}
use Rattle.sc_timers.proofs.KeptLemmas.{due-found}
use Rattle.sc_timers.proofs.kept.due_place.Goals as goal

pub unreachable-requires-in_default-get : goal.unreachable-requires-in_default-get
unreachable-requires-in_default-get c =
    let old = c.args.kept.now in
    let of = of-member by_session (send_at old.sends) old.session.entries c.args.session c.in-Some.entry
    c.requires.kept.session (sym c.in-Some.ensures) in
    let none : ◌≡◌ {A = Option TimerImage} None (Some of.send) = c.in_default-get.ensures ∙ of.found in
    cc

pub returns : goal.returns
returns c =
    let old = c.args.kept.now in
    rw c.place_of.ensures
    (due-found (send_at old.sends) old.due.entries old.session.entries c.args.session c.in-Some.entry
    c.in-Some-get.send.now
    c.requires.kept (sym c.in-Some.ensures) (sym c.in-Some-get.ensures))
