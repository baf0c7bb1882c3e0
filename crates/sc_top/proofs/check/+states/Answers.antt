use Rattle.std.proofs.Common.{arith}
use Rattle.std.proofs.lemmas.Grind.{common_steps}
use Rattle.sc_top.proofs.StateCountLemmas.{states_in_node}
use Rattle.sc_top.proofs.check.+states.Goals as goal

pub returns : goal.returns
returns t c =
    let e = states_in_node c.args.node.now in
    let i = c.loop-kid.invariant in
    let k = c.slice-kid-items.ensures in
    let o = c.states_at-count.ensures in
    grind (arith, common_steps)
