use Rattle.std.proofs.Common.{◌≡◌, ◌++◌, false, map, option_map, arith, ap, subst, sym, ◌∙◌}
use Rattle.std.proofs.lemmas.Option.{same_Some}
use Rattle.sc_types.specs.declared.host.SessionImage.{SessionImage}
use Rattle.sc_core.specs.Births.{IsGrown}
use Rattle.sc_core.specs.Bodies.{children_of, image, inviter}
use Rattle.sc_core.specs.Changes.{put_state}
use Rattle.sc_core.specs.Drafts.{so_far}
use Rattle.sc_machine.specs.Endings.{cleared, tell_end, with_children_left}
use Rattle.sc_machine.specs.Hosts.{is_live}
use Rattle.sc_core.specs.Parting.{Adds, cut_changes, new_left, old_left}
use Rattle.sc_core.proofs.DraftLemmas.{sender_grown, sender_there}
use Rattle.sc_core.proofs.EndLemmas.{body_at, children_are, end_drafted, left_grown, left_of}
use Rattle.sc_core.proofs.RoomLemmas.{on_ok}
use Rattle.sc_core.proofs.SetLemmas.{image_at}
use Rattle.sc_core.proofs.body.Body.draft_over.Goals as goal

pub tell_invoker-requires-clause-number : goal.tell_invoker-requires-clause-number
tell_invoker-requires-clause-number g c =
    let events = ap (λ d. d.events) c.in_ok-draft_left.ensures in
    omega (arith, events, c.requires.number)

pub returns : goal.returns
returns g c = on_ok c.tell_invoker.result _ _ c.tell_invoker.ensures (λ tells h t sender ended.
    let old = c.args.draft.now in
    let body = c.args.self.now in
    let before = image body in
    let after = c.args.after.now in
    let place = c.args.place in
    let how = c.args.how.now in
    let k = so_far h old in
    let found = sender_there before place after h old t sender in
    let over : is_live after.phase ≡ false = ap is_live ended in
    let item = body_at body.sessions.items place c.requires.within in
    let named : item.0.state.session ≡ after.session =
    same_Some item.0.state.session after.session
    (sym (ap (λ o. option_map (λ (x : SessionImage). x.state.session) o) (image_at body.sessions.items place item.0 item.1))
    ∙ c.requires.there) in
    let children = children_are body place item.0 c.requires.agrees item.1
    ∙ ap (λ name. children_of name 0 (map inviter body.sessions.items)) named in
    let left = c.add_births.new.left in
    let is = c.in_ok-add_births.ensures ∙ ap (λ ls. ls ++ new_left old.changes old.births)
    (c.in_ok-left.ensures item.0 item.1 ∙ ap (old_left body.sessions.items old.changes place) children)
    ∙ left_of body place after h old t sender over in
    let made = c.in_ok-draft_left.ensures in
    let m = with_children_left (cleared k place t) t.state.session in
    let told = tells m found.session found.there (ap (λ d. d.events) made ∙ sender.draft.events)
    (subst (λ bs. IsGrown (put_state before place after) bs m) (sym (ap (λ d. d.births) made))
    (left_grown (put_state before place after) k place t old.births sender.there
    (sender_grown before place after h old t sender))) in
    end_drafted k place t how old _ _ left _ sender.there (found.is.phase ∙ ended) is
    (ap (λ d. d.changes) made ∙ ap (λ cs. cs ++ cut_changes left) c.in_ok-push.ensures.ok)
    (ap (λ d. d.sent) made)
    (subst (λ o. Adds m c.draft_left.new.draft.changes c.tell_invoker.new.draft.changes (tell_end m o how).host)
    (sym found.is.invoker) told.0)
    (told.1 ∙ ap (λ o. c.draft_left.new.draft.sent ++ (tell_end m o how).sent) (sym found.is.invoker)))
