use Rattle.std.proofs.Common.{◌≡◌, ◌++◌, ◌∷◌, length, length-append, ap, arith, sym, ◌∙◌, subst}
use Rattle.sc_ranks.specs.Nodes.{linked}
use Rattle.sc_ranks.specs.Ranks.{place_of, IsRising}
use Rattle.sc_ranks.proofs.SideLemmas.{place-left, place-right, rising-left, rising-right}
use Rattle.sc_ranks.proofs.node.place_of.Goals as goal

pub loop-below-preserved-then-precedes : goal.loop-below-preserved-then-precedes
loop-below-preserved-then-precedes c =
    let left = linked c.node.inside.left in
    let here = c.node.inside.entry in
    let right = linked c.node.inside.right in
    let is : linked c.loop-below.below.now ≡ left ++ here ∷ right =
    ap linked c.in-Some.is ∙ sym c.deref-node.ensures ∙ sym c.node.view_is in
    let rising = subst IsRising is c.loop-below.invariant.rising in
    let place = place-right c.args.first c.args.number left here right rising (sym c.if-precedes.ensures) in
    let same = ap (place_of c.args.first c.args.number) is in
    record {
      place = omega (arith, c.size.ensures, c.loop-below.invariant.place, same, place);
      rising = rising-right left here right rising;
      within = omega (
        arith,
        c.size.ensures,
        c.loop-below.invariant.within,
        ap length is,
        length-append left
            (here ∷ right),
      );
    }

pub loop-below-preserved : goal.loop-below-preserved
loop-below-preserved c =
    let left = linked c.node.inside.left in
    let here = c.node.inside.entry in
    let right = linked c.node.inside.right in
    let is : linked c.loop-below.below.now ≡ left ++ here ∷ right =
    ap linked c.in-Some.is ∙ sym c.deref-node.ensures ∙ sym c.node.view_is in
    let place = place-left c.args.first c.args.number left here right (sym c.if-precedes.ensures) in
    let same = ap (place_of c.args.first c.args.number) is in
    record {
      place = omega (arith, c.loop-below.invariant.place, same, place);
      rising = rising-left left here right (subst IsRising is c.loop-below.invariant.rising);
      within = omega (arith, c.loop-below.invariant.within, ap length is, length-append left (here ∷ right));
    }
