use Rattle.std.proofs.Common.{◌+◌, ap, ◌∙◌}
use Rattle.sc_types.specs.declared.history.Delivery.TheVariants.{Queued}
use Rattle.sc_core.proofs.DraftLemmas.{each_ok, found_there, none_there}
use Rattle.sc_core.proofs.EndLemmas.{told_cut, told_none, told_queued}
use Rattle.sc_core.proofs.body.Body.draft_told.Goals as goal

pub returns-then-invoker-clause-adds : goal.returns-then-invoker-clause-adds
returns-then-invoker-clause-adds g c = λ h events grown.
    told_cut h c.args.draft.now.changes c.args.invoker.now c.args.event c.if-invoker.true

pub returns-in_ok-copy-in-Some-clause-adds : goal.returns-in_ok-copy-in-Some-clause-adds
returns-in_ok-copy-in-Some-clause-adds g c =
    let old = c.args.draft.now in
    let i = c.args.invoker.now in
    each_ok (λ told made h events grown.
    let found = found_there h i.session c.in-Some.found (c.in-Some.ensures h grown) in
    told_queued h old _ i c.args.event c.in-Some.found found.0 told c.if-invoker.false found.1 found.2 events c.requires.number
    made.0 (made.1 ∙ ap (λ n. Queued (old.events + 1) n) c.in_ok-copy-in-Some.ensures)) c.draft_queue.result c.draft_queue.ensures.made

pub returns-in-None-clause-adds : goal.returns-in-None-clause-adds
returns-in-None-clause-adds g c = λ h events grown.
    told_none h c.args.draft.now.changes c.args.invoker.now c.args.event c.if-invoker.false
    (none_there _ (c.in-None.ensures h grown))
