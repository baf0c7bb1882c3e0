use Rattle.std.proofs.Common.{rules, arith, ◌≡◌, ℕ, ◌+◌, Err, List, ap, length, subst, sym}
use Rattle.sc_book.specs.declared.fault.OpenFault.TheVariants.{BadEntry}
use Rattle.sc_book.proofs.OpenLemmas.{IsReplaying, first_bad, replaying_all, replaying_few, replaying_more, replaying_none}
use Rattle.sc_book.proofs.opening.replay.Goals as goal

pub loop-body-init : goal.loop-body-init
loop-body-init g c = replaying_none c.args.bodies c.new-host.result.image c.new-host.ensures

pub redo-requires-clause-room : goal.redo-requires-clause-room
redo-requires-clause-room g c =
    let few = replaying_few c.args.bodies c.loop-body.left c.loop-body.number c.loop-body.host.image c.loop-body.invariant in
    λ κs within. omega (arith, few.0, c.requires)

pub returns-in_err-redo-clause-bad : goal.returns-in_err-redo-clause-bad
returns-in_err-redo-clause-bad g c = λ n is.
    let fault : c.in_err-redo.field-0.0 ≡ BadEntry n = search rules in
    let bad = c.in_err-redo.ensures.bad n (ap Err fault) in
    first_bad c.args.bodies c.loop-body.left c.loop-body.number n c.loop-body.host.image c.in-Some.body.now c.loop-body.invariant
    c.in-Some.ensures bad.1 bad.0

pub pop_front-requires : goal.pop_front-requires
pop_front-requires g c = let long = ap length c.in-Some.ensures in omega (arith, long)

pub overflow_add-number : goal.overflow_add-number
overflow_add-number g c =
    let few = replaying_few c.args.bodies c.loop-body.left c.loop-body.number c.loop-body.host.image c.loop-body.invariant in
    omega (arith, few.1, c.requires)

pub loop-body-smaller : goal.loop-body-smaller
loop-body-smaller g c =
    let long = ap length c.in-Some.ensures in
    let rest = ap length c.pop_front.ensures in
    omega (arith, long, rest)

pub loop-body-preserved : goal.loop-body-preserved
loop-body-preserved g c =
    let more = replaying_more c.args.bodies c.loop-body.left c.loop-body.number c.loop-body.host.image c.redo.new.host.image
    c.in-Some.body.now c.loop-body.invariant c.in-Some.ensures c.in_ok-redo.ensures.ok in
    subst (λ (left : List (List ℕ)). IsReplaying c.args.bodies left (c.loop-body.number + 1) c.redo.new.host.image)
    (sym c.pop_front.ensures) more

pub returns-clause-ok : goal.returns-clause-ok
returns-clause-ok g c =
    replaying_all c.args.bodies c.loop-body.left c.loop-body.number c.loop-body.host.image c.loop-body.invariant
    c.in_default.ensures
