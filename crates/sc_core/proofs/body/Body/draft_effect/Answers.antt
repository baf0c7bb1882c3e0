use Rattle.std.proofs.Common.{ap}
use Rattle.sc_machine.specs.Deliveries.{deliver, deliver_of}
use Rattle.sc_core.specs.Drafts.{so_far, stepper}
use Rattle.sc_core.proofs.DraftLemmas.{deliver_is, noted}
use Rattle.sc_core.proofs.RoomLemmas.{on_ok}
use Rattle.sc_core.proofs.body.Body.draft_effect.Goals as goal

pub returns-clause-notes : goal.returns-clause-notes
returns-clause-notes g c =
    let old = c.args.draft.now in
    let mid = c.draft_delivery.new.draft in
    let place = c.args.place in
    let effect = c.args.effect in
    on_ok c.push.result _ _ c.push.ensures.ok (λ pushed h t sender. noted (stepper c.args.after.now.session c.args.place) h old mid _
    (deliver_of (so_far h old) place t effect) (deliver (so_far h old) place effect) c.in_ok-what.what
    (deliver_is (so_far h old) place t effect sender.there) (c.in_ok-what.ensures.told h t sender)
    (ap (λ s. record mid { sent = s }) pushed))
