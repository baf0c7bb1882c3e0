use Rattle.std.proofs.Common.{◌≡◌, ◌+◌, ◌-◌, length, arith, sym}
use Rattle.sc_ranks.specs.Nodes.{linked}
use Rattle.sc_ranks.proofs.SideLemmas.{insert-right}
use Rattle.sc_ranks.proofs.tree.+inserted.Goals as goal

pub returns-else-place-before : goal.returns-else-place-before
returns-else-place-before t c =
    let top = c.opened-top.result in
    let place : c.args.place ≡ length (linked top.left) + (c.args.place - c.size-before.result - 1) + 1 =
    omega (arith, c.size-before.ensures, c.if-place-before.false) in
    rw (c.in-Some.is, c.opened-top.ensures, c.balanced-else-place-before.ensures, c.inserted-right.ensures)
    (sym (insert-right (linked top.left) top.entry (linked top.right) c.args.place _ c.args.entry place))
