use Rattle.std.proofs.Common.{arith}
use Rattle.std.proofs.lemmas.Grind.{common_steps}
use Rattle.sc_law.proofs.PathLemmas.{elements_from_node}
use Rattle.sc_law.proofs.tree.+paths.Goals as goal

pub returns-clause-paths : goal.returns-clause-paths
returns-clause-paths t c =
    let e = elements_from_node c.args.node.now c.args.path.now in
    let i = c.loop-place.invariant.paths in
    let k = c.slice-kid-items.ensures in
    grind (arith, common_steps)
