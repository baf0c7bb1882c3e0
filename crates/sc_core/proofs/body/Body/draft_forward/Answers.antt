use Rattle.std.proofs.Common.{Some, ap, refl}
use Rattle.sc_types.specs.declared.history.Delivery.TheVariants.{Dropped}
use Rattle.sc_core.specs.Bodies.{image}
use Rattle.sc_machine.specs.Deliveries.{hand_to, left_as, while_live}
use Rattle.sc_core.specs.Drafts.{so_far, stepper}
use Rattle.sc_machine.specs.Hosts.{session_named}
use Rattle.sc_core.proofs.DraftLemmas.{drafts_same, each_ok, found_there, hand_drafted, none_drafted, none_there, sender_grown}
use Rattle.sc_core.proofs.body.Body.draft_forward.Goals as goal

pub returns-in-Some-clause-told : goal.returns-in-Some-clause-told
returns-in-Some-clause-told g c =
    let old = c.args.draft.now in
    let before = image c.args.self.now in
    let after = c.args.after.now in
    let who = stepper after.session c.args.place in
    each_ok (λ told made h t sender.
    let found = found_there (so_far h old) c.args.child c.in-Some.found
    (c.in-Some.ensures (so_far h old) (sender_grown before c.args.place after h old t sender)) in
    drafts_same who h old _ (hand_to (so_far h old) c.args.child c.args.event (Some (c.in-Some.found, found.0)))
    (hand_to (so_far h old) c.args.child c.args.event (while_live (session_named (so_far h old) c.args.child))) told
    (ap (hand_to (so_far h old) c.args.child c.args.event) found.1)
    (hand_drafted who h old _ c.in-Some.found found.0 c.args.child c.args.event told sender.draft found.2 c.requires.number
    made.0 made.1)) c.draft_queue.result c.draft_queue.ensures.made

pub returns-in-None-clause-told : goal.returns-in-None-clause-told
returns-in-None-clause-told g c = λ h t sender.
    let old = c.args.draft.now in
    let before = image c.args.self.now in
    let after = c.args.after.now in
    let who = stepper after.session c.args.place in
    let d = left_as (so_far h old) Dropped in
    drafts_same who h old old d
    (hand_to (so_far h old) c.args.child c.args.event (while_live (session_named (so_far h old) c.args.child))) Dropped
    (ap (hand_to (so_far h old) c.args.child c.args.event)
    (none_there _ (c.in-None.ensures (so_far h old) (sender_grown before c.args.place after h old t sender))))
    (none_drafted who h old d Dropped sender.draft refl refl)
