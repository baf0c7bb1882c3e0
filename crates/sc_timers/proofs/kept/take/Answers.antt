use Rattle.std.proofs.Common.{◌≡◌, Option, None, Some, ap, sym, ◌∙◌}
use Rattle.slab.specs.Slab.{get as send_at}
use Rattle.sc_ranks.specs.declared.entry.Entry.{Entry}
use Rattle.sc_types.specs.declared.host.TimerImage.{TimerImage}
use Rattle.sc_timers.specs.Order.{by_due}
use Rattle.sc_timers.proofs.EntryLemmas.{of-member}
use Rattle.sc_timers.proofs.KeptLemmas.{taken}
use Rattle.sc_timers.proofs.SendLemmas.{slice_get-sends}
use Rattle.sc_timers.proofs.kept.take.Goals as goal

-- what two look-ups at one place find is the same
same_some : (o : Option Entry) (a b : Entry) → o ≡ Some a → o ≡ Some b → a ≡ b
same_some o a b h k = cc

pub unreachable-requires : goal.unreachable-requires
unreachable-requires c =
    let old = c.args.kept.now in
    let of = of-member by_due (send_at old.sends) old.due.entries c.args.due c.remove-key.result c.requires.kept.due
    c.remove-key.ensures.entry in
    let none : ◌≡◌ {A = Option TimerImage} None (Some of.send) = c.in-None.ensures.value ∙ of.found in
    cc

pub returns-clause-kept : goal.returns-clause-kept
returns-clause-kept c =
    let old = c.args.kept.now in
    let pair = c.requires.pair in
    let first = same_some _ _ _ c.remove-key.ensures.entry pair.at_first in
    let second = same_some _ _ _ pair.at_second c.remove.ensures.entry in
    let key = ap (λ (e : Entry). e.key) first ∙ pair.key ∙ ap (λ (e : Entry). e.key) second in
    rw (c.remove-key.ensures.entries, c.remove.ensures.entries)
    (taken (send_at old.sends) (send_at c.try_remove.new.self) old.due.entries old.session.entries c.args.due
    c.args.session
    c.remove-key.result c.remove.result c.requires.kept c.remove-key.ensures.entry c.remove.ensures.entry key
    c.try_remove.ensures.updates.changed c.try_remove.ensures.updates.others).kept

pub returns-clause-send : goal.returns-clause-send
returns-clause-send c =
    let old = c.args.kept.now in
    slice_get-sends by_due (send_at old.sends) old.due.entries c.args.due c.remove-key.result c.requires.kept.due
    c.remove-key.ensures.entry
    ∙ sym c.in-Some.ensures.value

pub returns-clause-sends : goal.returns-clause-sends
returns-clause-sends c =
    let old = c.args.kept.now in
    let pair = c.requires.pair in
    let first = same_some _ _ _ c.remove-key.ensures.entry pair.at_first in
    let second = same_some _ _ _ pair.at_second c.remove.ensures.entry in
    let key = ap (λ (e : Entry). e.key) first ∙ pair.key ∙ ap (λ (e : Entry). e.key) second in
    rw c.remove-key.ensures.entries
    (taken (send_at old.sends) (send_at c.try_remove.new.self) old.due.entries old.session.entries c.args.due
    c.args.session
    c.remove-key.result c.remove.result c.requires.kept c.remove-key.ensures.entry c.remove.ensures.entry key
    c.try_remove.ensures.updates.changed c.try_remove.ensures.updates.others).sends
