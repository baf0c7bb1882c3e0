use Rattle.std.proofs.Common.{ap, ◌∙◌}
use Rattle.sc_types.specs.declared.effect.Effect.TheVariants.{Send}
use Rattle.sc_machine.specs.Deliveries.{cancel_child, delay_send, deliver_of, hand_to, invoke, live_child, send_now, undo, while_live}
use Rattle.sc_core.specs.Drafts.{so_far, stepper}
use Rattle.sc_machine.specs.Hosts.{session_named}
use Rattle.sc_core.proofs.DraftLemmas.{drafts_same, each_ok, is_later}
use Rattle.sc_core.proofs.body.Body.draft_delivery.Goals as goal

pub returns-in-Send-default-default-eq0-clause-told : goal.returns-in-Send-default-default-eq0-clause-told
returns-in-Send-default-default-eq0-clause-told g c =
    let old = c.args.draft.now in
    let w = c.in-Send-default-default-eq0 in
    each_ok (λ told drafted h t sender. drafts_same (stepper c.args.after.now.session c.args.place) h old _
    (send_now (so_far h old) c.args.place t w.to w.event) (deliver_of (so_far h old) c.args.place t c.args.effect) told
    (ap (deliver_of (so_far h old) c.args.place t) (w.is ∙ ap (λ d. Send w.event w.to d) w.delay-test))
    (drafted h t sender)) c.draft_send.result c.draft_send.ensures.told

pub returns-in-Send-clause-told : goal.returns-in-Send-clause-told
returns-in-Send-clause-told g c =
    let old = c.args.draft.now in
    let w = c.in-Send in
    each_ok (λ told drafted h t sender. drafts_same (stepper c.args.after.now.session c.args.place) h old _
    (delay_send (so_far h old) t w.to w.event w.delay) (deliver_of (so_far h old) c.args.place t c.args.effect) told
    (ap (deliver_of (so_far h old) c.args.place t) w.is
    ∙ is_later (so_far h old) c.args.place t w.event w.to w.delay w.delay-test.1)
    (drafted h t sender)) c.draft_delay.result c.draft_delay.ensures.told

pub returns-in-CancelSend-clause-told : goal.returns-in-CancelSend-clause-told
returns-in-CancelSend-clause-told g c =
    let old = c.args.draft.now in
    let w = c.in-CancelSend in
    each_ok (λ told drafted h t sender. drafts_same (stepper c.args.after.now.session c.args.place) h old _
    (undo (so_far h old) t w.sendid) (deliver_of (so_far h old) c.args.place t c.args.effect) told
    (ap (deliver_of (so_far h old) c.args.place t) w.is)
    (drafted h t sender)) c.draft_undo.result c.draft_undo.ensures.told

pub returns-in-Invoke-clause-told : goal.returns-in-Invoke-clause-told
returns-in-Invoke-clause-told g c =
    let old = c.args.draft.now in
    let w = c.in-Invoke in
    each_ok (λ told drafted h t sender. drafts_same (stepper c.args.after.now.session c.args.place) h old _
    (invoke (so_far h old) c.args.place t w.invokeid w.child w.chart w.pairs) (deliver_of (so_far h old) c.args.place t c.args.effect) told
    (ap (deliver_of (so_far h old) c.args.place t) w.is)
    (drafted h t sender)) c.draft_invoke.result c.draft_invoke.ensures.told

pub returns-in-CancelChild-clause-told : goal.returns-in-CancelChild-clause-told
returns-in-CancelChild-clause-told g c =
    let old = c.args.draft.now in
    let w = c.in-CancelChild in
    each_ok (λ told drafted h t sender. drafts_same (stepper c.args.after.now.session c.args.place) h old _
    (cancel_child (so_far h old) w.child (live_child (so_far h old) t w.child)) (deliver_of (so_far h old) c.args.place t c.args.effect) told
    (ap (deliver_of (so_far h old) c.args.place t) w.is)
    (drafted h t sender)) c.draft_cancel_child.result c.draft_cancel_child.ensures.told

pub returns-in-Forward-clause-told : goal.returns-in-Forward-clause-told
returns-in-Forward-clause-told g c =
    let old = c.args.draft.now in
    let w = c.in-Forward in
    each_ok (λ told drafted h t sender. drafts_same (stepper c.args.after.now.session c.args.place) h old _
    (hand_to (so_far h old) w.child w.event (while_live (session_named (so_far h old) w.child))) (deliver_of (so_far h old) c.args.place t c.args.effect) told
    (ap (deliver_of (so_far h old) c.args.place t) w.is)
    (drafted h t sender)) c.draft_forward.result c.draft_forward.ensures.told
