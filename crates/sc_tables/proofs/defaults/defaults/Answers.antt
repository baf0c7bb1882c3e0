use Rattle.std.proofs.Common.{◌≡◌, arith}
use Rattle.sc_law.specs.Configurations.{defaults}
use Rattle.sc_tables.proofs.RangeRows.{list-more, list-done}
use Rattle.sc_tables.proofs.defaults.defaults.Goals as goal

pub loop-state-preserved : goal.loop-state-preserved
loop-state-preserved c =
    list-more (defaults c.args.ids.now) c.loop-state.lists c.push.new.self c.loop-state.state _ c.loop-state.invariant c.in_ok-push.ensures.ok c.in_ok-defaults_of.ensures

pub returns : goal.returns
returns c =
    let e : c.loop-state.state ≡ c.args.count = omega arith in
    let so_far = list-done (defaults c.args.ids.now) c.loop-state.lists c.loop-state.state c.args.count c.loop-state.invariant e in
    list-more (defaults c.args.ids.now) c.loop-state.lists c.push-2.new.self c.args.count _ so_far c.in_ok-push-2.ensures.ok c.in_ok-defaults_of-2.ensures
