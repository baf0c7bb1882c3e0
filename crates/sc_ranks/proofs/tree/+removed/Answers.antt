use Rattle.std.proofs.Common.{◌≡◌, ◌+◌, ◌-◌, ◌<◌, length, slice_get, ap, arith, sym, ◌∙◌}
use Rattle.sc_ranks.specs.Nodes.{linked}
use Rattle.sc_ranks.proofs.SideLemmas.{remove-here, remove-left, remove-right, get-here, get-left, get-right}
use Rattle.sc_ranks.proofs.tree.+removed.Goals as goal

pub returns-then-place-before-clause-rest : goal.returns-then-place-before-clause-rest
returns-then-place-before-clause-rest t c =
    let top = c.opened-node.result in
    rw (c.glued.ensures, c.opened-node.ensures)
    (sym (remove-here (linked top.left) top.entry (linked top.right) c.args.place
    (c.if-place-before.true ∙ c.size-before.ensures)))

pub returns-then-place-before-clause-entry : goal.returns-then-place-before-clause-entry
returns-then-place-before-clause-entry t c =
    let top = c.opened-node.result in
    rw c.opened-node.ensures
    (get-here (linked top.left) top.entry (linked top.right) c.args.place
    (c.if-place-before.true ∙ c.size-before.ensures))

pub returns-in-Some-clause-rest : goal.returns-in-Some-clause-rest
returns-in-Some-clause-rest t c =
    let top = c.opened-node.result in
    let within : c.args.place < length (linked top.left) =
    omega (arith, c.if-place-before-2.true, c.size-before.ensures) in
    rw (c.balanced.ensures, c.removed-taken.ensures.rest, c.opened-node.ensures, ← ap linked c.in-Some.is)
    (sym (remove-left (linked top.left) top.entry (linked top.right) c.args.place within))

pub returns-in-Some-clause-entry : goal.returns-in-Some-clause-entry
returns-in-Some-clause-entry t c =
    let top = c.opened-node.result in
    let within : c.args.place < length (linked top.left) =
    omega (arith, c.if-place-before-2.true, c.size-before.ensures) in
    ap (λ es. slice_get es c.args.place) c.opened-node.ensures
    ∙ get-left (linked top.left) top.entry (linked top.right) c.args.place within
    ∙ ap (λ es. slice_get es c.args.place) (ap linked c.in-Some.is) ∙ c.removed-taken.ensures.entry

pub returns-in-Some-right-clause-rest : goal.returns-in-Some-right-clause-rest
returns-in-Some-right-clause-rest t c =
    let top = c.opened-node.result in
    let place : c.args.place ≡ length (linked top.left) + (c.args.place - c.size-before.result - 1) + 1 =
    omega (arith, c.if-place-before.false, c.if-place-before-2.false, c.size-before.ensures) in
    rw (
      c.balanced-else-place-before-2.ensures,
      c.removed-taken-else-place-before-2.ensures.rest,
      c.opened-node.ensures,
      ← ap linked c.in-Some-right.is,
    )
    (sym (remove-right (linked top.left) top.entry (linked top.right) c.args.place _ place))

pub returns-in-Some-right-clause-entry : goal.returns-in-Some-right-clause-entry
returns-in-Some-right-clause-entry t c =
    let top = c.opened-node.result in
    let rest = c.args.place - c.size-before.result - 1 in
    let place : c.args.place ≡ length (linked top.left) + rest + 1 =
    omega (arith, c.if-place-before.false, c.if-place-before-2.false, c.size-before.ensures) in
    ap (λ es. slice_get es c.args.place) c.opened-node.ensures
    ∙ get-right (linked top.left) top.entry (linked top.right) c.args.place rest place
    ∙ ap (λ es. slice_get es rest) (ap linked c.in-Some-right.is) ∙ c.removed-taken-else-place-before-2.ensures.entry
