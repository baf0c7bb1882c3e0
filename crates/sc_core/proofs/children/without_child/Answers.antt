use Rattle.std.proofs.Common.{not, filter, rules, ap, ◌∙◌}
use Rattle.std.specs.Str.{bytes_eq}
use Rattle.std.proofs.lemmas.Fn.{filter_same}
use Rattle.sc_types.specs.declared.session.Invoked.{Invoked}
use Rattle.sc_core.proofs.children.without_child.Goals as goal

pub returns : goal.returns
returns c =
    c.from_vec.ensures
    ∙ filter_same _ _ _ (λ x b f' k. search rules) _ _ c.retain.ensures.filtered
    ∙ ap (filter (λ (i : Invoked). not (bytes_eq i.child c.args.child.now))) c.into_vec-left.ensures
