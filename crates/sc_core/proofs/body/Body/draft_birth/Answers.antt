use Rattle.std.proofs.Common.{◌≡◌, ◌+◌, length, ap, subst, sym, ◌∙◌}
use Rattle.sc_types.specs.declared.history.Delivery.TheVariants.{Born}
use Rattle.sc_core.specs.Bodies.{image, session_image}
use Rattle.sc_core.specs.Changes.{put_state}
use Rattle.sc_machine.specs.Deliveries.{born}
use Rattle.sc_core.specs.Drafts.{Drafts, so_far, stepper}
use Rattle.sc_core.proofs.DraftLemmas.{put_long, sender_there, sender_within}
use Rattle.sc_core.proofs.BirthLemmas.{sights_long}
use Rattle.sc_core.proofs.InvokeLemmas.{born_drafted, born_image, born_put, depth_of}
use Rattle.sc_core.proofs.SetLemmas.{map_long}
use Rattle.sc_core.proofs.body.Body.draft_birth.Goals as goal

pub returns-clause-told : goal.returns-clause-told
returns-clause-told g c = λ h t sender.
    let old = c.args.draft.now in
    let before = image c.args.self.now in
    let after = c.args.after.now in
    let who = stepper after.session c.args.place in
    let w = c.args.invocation in
    let found = sender_there before c.args.place after h old t sender in
    let s = c.in_ok-session.session in
    let long : length h.sessions ≡ length c.args.self.now.sessions.items =
    sights_long (put_state before c.args.place after) h sender.base.sights ∙ put_long before c.args.place after
    ∙ map_long session_image c.args.self.now.sessions.items in
    let at : c.in_ok-at.at ≡ length h.sessions + length old.births =
    c.in_ok-at.ensures ∙ ap (λ n. n + length old.births) (sym long) in
    let name : c.in_ok-child.child ≡ w.child = c.in_ok-child.ensures in
    let new = record old { changes = c.push.new.self; births = c.push-2.new.self } in
    subst (λ n. Drafts who h old new (born (so_far h old) t w.invokeid w.child w.chart w.pairs) (Born n)) (sym name)
    (born_drafted who h old new t s w.invokeid w.child w.chart w.pairs sender.draft sender.there found.is.session
    (sender_within before c.args.place after h old t sender) (c.requires.new h t sender)
    (born_image t s after.session w.invokeid w.child w.chart w.pairs c.args.depth found.is.session
    (depth_of before c.args.place found.session t c.args.depth found.there found.is.depth c.requires.depth)
    c.in_ok-session.ensures.image) c.in_ok-session.ensures.children
    (born_put old c.push.new.self c.push-2.new.self c.args.place s _ _ w.child c.in_ok-at.at (length h.sessions + length old.births)
    c.in_ok-push.ensures.ok c.in_ok-push-2.ensures.ok (c.in_ok-copy.ensures ∙ name) (c.in_ok-copy-2.ensures ∙ name) at))
