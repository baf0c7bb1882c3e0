use Rattle.std.proofs.Common.{◌≡◌, option_map, ap, sym, ◌∙◌}
use Rattle.std.proofs.lemmas.Option.{same_Some}
use Rattle.sc_core.specs.Parting.{old_left}
use Rattle.sc_core.specs.declared.session.Session.{Session}
use Rattle.sc_core.proofs.LoopLemmas.{old_last, old_next}
use Rattle.sc_core.proofs.body.Body.old_children.Goals as goal

pub loop-child-preserved : goal.loop-child-preserved
loop-child-preserved g c =
    old_next c.args.self.now.sessions.items c.args.changes.now c.args.place c.children_at-children.result.now.items c.loop-child.number
    c.in-Some.child.now c.loop-child.left _ _ (sym c.in-Some.ensures.value) c.in_ok-add_left.ensures c.loop-child.invariant

pub returns : goal.returns
returns g c = λ s there.
    let children = c.children_at-children.result.now in
    let items = c.args.self.now.sessions.items in
    let same : s.children ≡ children =
    same_Some s.children children
    (sym (ap (λ o. option_map (λ (x : Session). x.children) o) there) ∙ c.children_at-children.ensures) in
    old_last items c.args.changes.now c.args.place children.items c.loop-child.number c.loop-child.left _
    (sym c.in_default.ensures.value) c.loop-child.invariant
    ∙ ap (λ list. old_left items c.args.changes.now c.args.place list.items) (sym same)
