use Rattle.std.proofs.Common.{◌≡◌, [], ◌∷◌, ◌++◌, ap, ◌∙◌, rules}
use Rattle.sc_core.specs.Bodies.{image}
use Rattle.sc_core.specs.Drafts.{stepper}
use Rattle.sc_core.specs.declared.change.Change.TheVariants.{Undo}
use Rattle.sc_core.proofs.DraftLemmas.{sender_there, undo_drafted}
use Rattle.sc_core.proofs.body.Body.draft_undo.Goals as goal

pub returns-clause-told : goal.returns-clause-told
returns-clause-told g c = λ h t sender.
    let old = c.args.draft.now in
    let after = c.args.after.now in
    let id = c.args.sendid in
    let found = sender_there (image c.args.self.now) c.args.place after h old t sender in
    let some : id ≡ [] → ⊥ = search rules in
    undo_drafted (stepper after.session c.args.place) h old _ t id c.in_ok-count.count sender.draft found.is.session some
    (c.in_ok-count.ensures h c.args.place sender.base.timers sender.draft)
    (ap (λ cs. record old { changes = cs })
    (c.in_ok-push.ensures.ok ∙ ap (λ s. old.changes ++ Undo s id ∷ []) c.in_ok-copy.ensures))
