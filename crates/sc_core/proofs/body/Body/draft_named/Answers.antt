use Rattle.std.proofs.Common.{◌≡◌, ◌+◌, ◌++◌, ◌∷◌, [], Some, ap, refl, sym, ◌∙◌}
use Rattle.sc_types.specs.declared.history.Delivery.TheVariants.{Dropped, Queued}
use Rattle.sc_core.specs.Aims.{invokeid_for}
use Rattle.sc_core.specs.Bodies.{image}
use Rattle.sc_core.specs.Changes.{numbered, with_invokeid}
use Rattle.sc_machine.specs.Deliveries.{arriving, hand_to, left_as, send_named, unreachable}
use Rattle.sc_core.specs.Drafts.{so_far, stepper}
use Rattle.sc_core.specs.declared.change.Change.TheVariants.{Queue}
use Rattle.sc_core.proofs.AimLemmas.{arrives}
use Rattle.sc_core.proofs.DraftLemmas.{cut_is_dropped, drafts_same, each_ok, found_there, hand_drafted, invoker_of, lost_is_unreachable, none_drafted, none_there, sender_grown, sent_is_handed}
use Rattle.sc_core.proofs.body.Body.draft_named.Goals as goal

pub returns-then-is_cut_from-clause-told : goal.returns-then-is_cut_from-clause-told
returns-then-is_cut_from-clause-told g c = λ h t sender.
    let old = c.args.draft.now in
    let before = image c.args.self.now in
    let after = c.args.after.now in
    let who = stepper after.session c.args.place in
    let d = left_as (so_far h old) Dropped in
    drafts_same who h old old d (send_named (so_far h old) c.args.place t c.args.event (Some c.args.name.now)) Dropped
    (cut_is_dropped (so_far h old) c.args.place t c.args.event c.args.name.now
    (sym (c.if-is_cut_from.ensures t (invoker_of before c.args.place after h old t _ sender c.invoker_at-invoker.ensures))))
    (none_drafted who h old d Dropped sender.draft refl refl)

pub returns-in_default-clause-told : goal.returns-in_default-clause-told
returns-in_default-clause-told g c =
    let old = c.args.draft.now in
    let before = image c.args.self.now in
    let after = c.args.after.now in
    let who = stepper after.session c.args.place in
    let e = c.args.event in
    each_ok (λ told drafted h t sender. drafts_same who h old _ (unreachable (so_far h old) c.args.place t e)
    (send_named (so_far h old) c.args.place t e (Some c.args.name.now)) told
    (lost_is_unreachable (so_far h old) c.args.place t e c.args.name.now
    (sym (c.if-is_cut_from.ensures t (invoker_of before c.args.place after h old t _ sender c.invoker_at-invoker.ensures)))
    (none_there _ (c.in_default.ensures (so_far h old) (sender_grown before c.args.place after h old t sender))))
    (drafted h t e sender refl)) c.draft_failure.result c.draft_failure.ensures.told

pub returns-clause-told : goal.returns-clause-told
returns-clause-told g c =
    let old = c.args.draft.now in
    let before = image c.args.self.now in
    let after = c.args.after.now in
    let who = stepper after.session c.args.place in
    let e = c.args.event in
    let name = c.args.name.now in
    let place = c.in-Some.receiver in
    each_ok (λ told made h t sender.
    let invoker = invoker_of before c.args.place after h old t _ sender c.invoker_at-invoker.ensures in
    let found = found_there (so_far h old) name place
    (c.in-Some.ensures (so_far h old) (sender_grown before c.args.place after h old t sender)) in
    let arrived : c.with_invokeid.result ≡ arriving t name e =
    c.with_invokeid.ensures ∙ ap (with_invokeid e) (c.in_ok-invokeid.ensures ∙ ap (λ i. invokeid_for i name) (sym invoker))
    ∙ arrives t name e in
    drafts_same who h old _ (hand_to (so_far h old) name (arriving t name e) (Some (place, found.0)))
    (send_named (so_far h old) c.args.place t e (Some name)) told
    (sent_is_handed (so_far h old) c.args.place place t found.0 e name (sym (c.if-is_cut_from.ensures t invoker)) found.1)
    (hand_drafted who h old _ place found.0 name (arriving t name e) told sender.draft found.2 c.requires.number
    (made.0 ∙ ap (λ x. record old { changes = old.changes ++ Queue place (numbered (old.events + 1) x) ∷ []; events = old.events + 1 }) arrived)
    (made.1 ∙ ap (λ n. Queued (old.events + 1) n) c.in_ok-copy.ensures)))
    c.draft_queue.result c.draft_queue.ensures.made
