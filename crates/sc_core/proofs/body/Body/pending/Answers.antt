use Rattle.std.proofs.Common.{◌+◌, count_by, drop, ap, sym, ◌∙◌}
use Rattle.sc_types.specs.Sends.{is_send}
use Rattle.sc_core.specs.Drafts.{stepper}
use Rattle.sc_core.proofs.CountLemmas.{counted, counted_is}
use Rattle.sc_core.proofs.RoomLemmas.{drop_at, drop_past}
use Rattle.sc_core.proofs.body.Body.pending.Goals as goal

pub loop-change-preserved : goal.loop-change-preserved
loop-change-preserved g c =
    let session = c.args.session.now in
    let id = c.args.id.now in
    let changes = c.args.draft.now.changes in
    let at = drop_at changes c.loop-change.place c.in-Some.change.now (sym c.in-Some.ensures.value) in
    ap (counted session id (drop (c.loop-change.place + 1) changes)) c.in_ok-count.ensures
    ∙ sym (ap (λ cs. counted session id cs c.loop-change.count) at) ∙ c.loop-change.invariant

pub returns : goal.returns
returns g c = λ h place timers draft.
    let session = c.args.session.now in
    let id = c.args.id.now in
    let changes = c.args.draft.now.changes in
    let past = drop_past changes c.loop-change.place (sym c.in_default.ensures.value) in
    sym (ap (λ cs. counted session id cs c.loop-change.count) past) ∙ c.loop-change.invariant
    ∙ ap (λ ts. counted session id changes (count_by (is_send session id) ts)) (sym timers)
    ∙ counted_is (stepper session place) id changes h draft.of_step
