use Rattle.std.proofs.Common.{◌≡◌, false, true, codes, ap, sym, ◌∙◌}
use Rattle.sc_types.specs.declared.event.Data.TheVariants.{Absent}
use Rattle.sc_law.specs.Runs.{platform_event}
use Rattle.sc_core.specs.Bodies.{image}
use Rattle.sc_core.specs.Drafts.{stepper}
use Rattle.sc_machine.specs.Hosts.{is_running}
use Rattle.sc_core.proofs.DraftLemmas.{hears_drafted, sender_there, sender_within, unheard_drafted}
use Rattle.sc_core.proofs.body.Body.draft_failure.Goals as goal

pub returns-then-not-is_running-clause-told : goal.returns-then-not-is_running-clause-told
returns-then-not-is_running-clause-told g c = λ h t e sender same.
    let after = c.args.after.now in
    let found = sender_there (image c.args.self.now) c.args.place after h c.args.draft.now t sender in
    let stopped : is_running t.state.phase ≡ false = ap is_running found.is.phase ∙ sym c.if-not-is_running.ensures in
    unheard_drafted (stepper after.session c.args.place) h c.args.draft.now c.args.place t e sender.draft stopped

pub returns-clause-told : goal.returns-clause-told
returns-clause-told g c = λ h t e sender same.
    let old = c.args.draft.now in
    let after = c.args.after.now in
    let found = sender_there (image c.args.self.now) c.args.place after h old t sender in
    let runs : is_running t.state.phase ≡ true = ap is_running found.is.phase ∙ sym c.if-not-is_running.ensures in
    hears_drafted (stepper after.session c.args.place) h old c.tell.new.self c.args.place t e c.in_ok-event.event
    sender.draft sender.there
    (sender_within (image c.args.self.now) c.args.place after h old t sender) runs
    (c.in_ok-event.ensures ∙ ap (λ id. platform_event (codes "error.communication") id Absent) (sym same))
    c.in_ok-tell.ensures
