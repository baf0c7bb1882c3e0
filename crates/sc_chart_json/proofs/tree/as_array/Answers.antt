use Rattle.std.proofs.Common.{◌≡◌, rules, None}
use Rattle.json.specs.Find as finds
use Rattle.json.specs.Value.{value_view}
use Rattle.json.specs.declared.value.Value.{the_lemmas}
use Rattle.sc_chart_json.proofs.TreeLemmas.{as_array-view, in_array}
use Rattle.sc_chart_json.proofs.tree.as_array.Goals as goal

pub returns-in-Array : goal.returns-in-Array
returns-in-Array c = in_array _ _ c.in-Array.is

pub returns-in_default : goal.returns-in_default
returns-in_default c =
    let none : None ≡ finds.as_array (value_view c.args.value.now) = search (rules, the_lemmas, c.in_default.not-Array) in
    as_array-view None c.args.value.now none
