use Rattle.std.proofs.Common.{Some, ap, refl, sym}
use Rattle.sc_core.specs.Bodies.{image}
use Rattle.sc_machine.specs.Deliveries.{send_named, send_now, unreachable}
use Rattle.sc_core.specs.Drafts.{so_far, stepper}
use Rattle.sc_core.proofs.DraftLemmas.{drafts_same, each_ok, invoker_of, sender_there}
use Rattle.sc_core.proofs.body.Body.draft_send.Goals as goal

pub returns-in-Some-clause-told : goal.returns-in-Some-clause-told
returns-in-Some-clause-told g c =
    let old = c.args.draft.now in
    let before = image c.args.self.now in
    let after = c.args.after.now in
    let who = stepper after.session c.args.place in
    each_ok (λ told drafted h t sender. drafts_same who h old _
    (send_named (so_far h old) c.args.place t c.args.event (Some c.in-Some.name.now))
    (send_now (so_far h old) c.args.place t c.args.to.now c.args.event) told
    (ap (send_named (so_far h old) c.args.place t c.args.event) (sym (c.in-Some.ensures t
    (sender_there before c.args.place after h old t sender).is.session
    (invoker_of before c.args.place after h old t _ sender c.invoker_at.ensures))))
    (drafted h t sender)) c.draft_named.result c.draft_named.ensures.told

pub returns-in-None-clause-told : goal.returns-in-None-clause-told
returns-in-None-clause-told g c =
    let old = c.args.draft.now in
    let before = image c.args.self.now in
    let after = c.args.after.now in
    let who = stepper after.session c.args.place in
    each_ok (λ told drafted h t sender. drafts_same who h old _
    (unreachable (so_far h old) c.args.place t c.args.event)
    (send_now (so_far h old) c.args.place t c.args.to.now c.args.event) told
    (ap (send_named (so_far h old) c.args.place t c.args.event) (sym (c.in-None.ensures t
    (sender_there before c.args.place after h old t sender).is.session
    (invoker_of before c.args.place after h old t _ sender c.invoker_at.ensures))))
    (drafted h t c.args.event sender refl)) c.draft_failure.result c.draft_failure.ensures.told
