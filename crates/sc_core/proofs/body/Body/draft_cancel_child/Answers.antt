use Rattle.std.proofs.Common.{◌≡◌, Some, ap, refl, sym, ◌∙◌}
use Rattle.std.specs.Str.{bytes_eq}
use Rattle.sc_types.specs.declared.history.Delivery.TheVariants.{Flagged, Nothing}
use Rattle.sc_core.specs.Bodies.{image}
use Rattle.sc_machine.specs.Deliveries.{cancel_child, left_as, live_child}
use Rattle.sc_core.specs.Drafts.{so_far, stepper}
use Rattle.sc_core.proofs.DraftLemmas.{drafts_same, found_there, none_drafted, none_there, sender_grown}
use Rattle.sc_core.proofs.InvokeLemmas.{cut_drafted, no_own_child, other_child, other_place}
use Rattle.sc_core.proofs.body.Body.draft_cancel_child.Goals as goal

pub returns-then-eq-clause-told : goal.returns-then-eq-clause-told
returns-then-eq-clause-told g c = λ h t sender.
    let old = c.args.draft.now in
    let before = image c.args.self.now in
    let after = c.args.after.now in
    let named : bytes_eq c.args.child after.session ≡ bytes_eq c.bytes.result.now c.bytes-2.result.now =
    ap (λ n. bytes_eq n after.session) (sym c.bytes.ensures.value) ∙ ap (bytes_eq c.bytes.result.now) (sym c.bytes-2.ensures.value) in
    let own = named ∙ sym c.eq.ensures ∙ c.if-eq.true in
    let who = stepper after.session c.args.place in
    let d = left_as (so_far h old) Nothing in
    drafts_same who h old old d
    (cancel_child (so_far h old) c.args.child (live_child (so_far h old) t c.args.child)) Nothing
    (ap (cancel_child (so_far h old) c.args.child)
    (no_own_child before c.args.place after h old t c.args.child sender own))
    (none_drafted who h old d Nothing sender.draft refl refl)

pub returns-in_default-clause-told : goal.returns-in_default-clause-told
returns-in_default-clause-told g c = λ h t sender.
    let old = c.args.draft.now in
    let before = image c.args.self.now in
    let after = c.args.after.now in
    let named : bytes_eq c.args.child after.session ≡ bytes_eq c.bytes.result.now c.bytes-2.result.now =
    ap (λ n. bytes_eq n after.session) (sym c.bytes.ensures.value) ∙ ap (bytes_eq c.bytes.result.now) (sym c.bytes-2.ensures.value) in
    let other = named ∙ sym c.eq.ensures ∙ c.if-eq.false in
    let who = stepper after.session c.args.place in
    let d = left_as (so_far h old) Nothing in
    drafts_same who h old old d
    (cancel_child (so_far h old) c.args.child (live_child (so_far h old) t c.args.child)) Nothing
    (ap (cancel_child (so_far h old) c.args.child)
    (other_child before c.args.place after h old t c.args.child sender other
    ∙ none_there _ (c.in_default.ensures (so_far h old) (sender_grown before c.args.place after h old t sender))))
    (none_drafted who h old d Nothing sender.draft refl refl)

pub returns-clause-told : goal.returns-clause-told
returns-clause-told g c = λ h t sender.
    let old = c.args.draft.now in
    let before = image c.args.self.now in
    let after = c.args.after.now in
    let named : bytes_eq c.args.child after.session ≡ bytes_eq c.bytes.result.now c.bytes-2.result.now =
    ap (λ n. bytes_eq n after.session) (sym c.bytes.ensures.value) ∙ ap (bytes_eq c.bytes.result.now) (sym c.bytes-2.ensures.value) in
    let other = named ∙ sym c.eq.ensures ∙ c.if-eq.false in
    let who = stepper after.session c.args.place in
    let found = found_there (so_far h old) c.args.child c.in-Some.found
    (c.in-Some.ensures (so_far h old) (sender_grown before c.args.place after h old t sender)) in
    drafts_same who h old _ (cancel_child (so_far h old) c.args.child (Some (c.in-Some.found, found.0)))
    (cancel_child (so_far h old) c.args.child (live_child (so_far h old) t c.args.child)) (Flagged c.args.child)
    (ap (cancel_child (so_far h old) c.args.child)
    (other_child before c.args.place after h old t c.args.child sender other ∙ found.1))
    (cut_drafted who h old _ c.args.child c.in-Some.found found.0 sender.draft found.2
    (other_place before c.args.place after h old t c.args.child c.in-Some.found found.0 sender other found.2 found.3)
    (ap (λ cs. record old { changes = cs }) c.in_ok-push.ensures.ok))
