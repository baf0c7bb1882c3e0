use Rattle.std.proofs.Common.{◌≡◌, rules, Some, None, ap, ◌∙◌}
use Rattle.json.specs.Find as finds
use Rattle.json.specs.Value.{value_view}
use Rattle.json.specs.declared.value.Value.{the_lemmas}
use Rattle.serde_json.specs.Data.{no_members}
use Rattle.sc_chart_json.specs.Trees.{put_members}
use Rattle.sc_chart_json.proofs.TreeLemmas.{as_object-view, in_object}
use Rattle.sc_chart_json.proofs.tree.as_object.Goals as goal

pub returns-in-Object : goal.returns-in-Object
returns-in-Object c =
    ap (λ ms. Some (put_members ms no_members)) c.as_slice.ensures.value ∙ in_object c.args.value.now c.in-Object.members c.in-Object.is

pub returns-in_default : goal.returns-in_default
returns-in_default c =
    let none : None ≡ finds.as_object (value_view c.args.value.now) = search (rules, the_lemmas, c.in_default.not-Object) in
    as_object-view None c.args.value.now none
