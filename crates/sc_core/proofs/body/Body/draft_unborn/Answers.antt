use Rattle.std.proofs.Common.{◌≡◌, ◌++◌, ◌∷◌, [], false, true, ap, sym, ◌∙◌}
use Rattle.sc_core.specs.Bodies.{image}
use Rattle.sc_core.specs.Drafts.{stepper}
use Rattle.sc_machine.specs.Hosts.{is_running}
use Rattle.sc_core.specs.declared.change.Change.TheVariants.{Tell}
use Rattle.sc_core.proofs.DraftLemmas.{sender_there, sender_within}
use Rattle.sc_core.proofs.InvokeLemmas.{quiet_drafted, unborn_drafted}
use Rattle.sc_core.proofs.body.Body.draft_unborn.Goals as goal

pub returns-then-not-is_running-clause-told : goal.returns-then-not-is_running-clause-told
returns-then-not-is_running-clause-told g c = λ h t sender.
    let old = c.args.draft.now in
    let before = image c.args.self.now in
    let after = c.args.after.now in
    let who = stepper after.session c.args.place in
    let found = sender_there before c.args.place after h old t sender in
    let stopped : is_running t.state.phase ≡ false = ap is_running found.is.phase ∙ sym c.if-not-is_running.ensures in
    quiet_drafted who h old _ t c.args.invokeid c.args.child sender.draft sender.there stopped
    (ap (λ cs. record old { changes = cs }) c.in_ok-push.ensures.ok)

pub returns-clause-told : goal.returns-clause-told
returns-clause-told g c = λ h t sender.
    let old = c.args.draft.now in
    let before = image c.args.self.now in
    let after = c.args.after.now in
    let who = stepper after.session c.args.place in
    let found = sender_there before c.args.place after h old t sender in
    let runs : is_running t.state.phase ≡ true = ap is_running found.is.phase ∙ sym c.if-not-is_running.ensures in
    unborn_drafted who h old _ t c.args.invokeid c.args.child c.in_ok-event.event sender.draft sender.there
    (sender_within before c.args.place after h old t sender) runs (c.in_ok-event.ensures ∙ c.in_ok-unborn_event.ensures)
    (ap (λ cs. record old { changes = cs }) (c.in_ok-push-2.ensures.ok
    ∙ ap (λ cs. cs ++ Tell c.args.place c.in_ok-event.event ∷ []) c.in_ok-push.ensures.ok))
