use Rattle.std.proofs.Common.{◌∙◌, ap, arith}
use Rattle.sc_law.specs.Nodes.{element}
use Rattle.sc_tables.specs.Ids.{IsAdded}
use Rattle.sc_tables.proofs.Identifiers.{one_more, all_numbers}
use Rattle.sc_tables.proofs.ids.StateIds.new.Goals as goal

pub loop-place-preserved : goal.loop-place-preserved
loop-place-preserved c =
    let added : IsAdded c.loop-place.numbers c.element.result.now c.loop-place.place c.add.new.self =
    rw c.in_ok-state_number.ensures.value at c.in_ok-add.ensures in
    one_more c.loop-place.numbers c.add.new.self c.args.chart.now c.args.paths.now c.loop-place.place _ c.element.result.now c.loop-place-test.true
    c.index-paths-place.is (c.element.ensures ∙ ap (element c.args.chart.now) c.slice.ensures) c.loop-place.invariant added

pub invariant_of-result : goal.invariant_of-result
invariant_of-result c =
    all_numbers c.loop-place.numbers c.args.chart.now c.args.paths.now c.loop-place.place c.requires (omega arith) c.loop-place.invariant
