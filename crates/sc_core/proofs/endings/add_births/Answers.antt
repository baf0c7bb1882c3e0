use Rattle.std.proofs.Common.{sym}
use Rattle.sc_core.proofs.LoopLemmas.{new_last, new_next}
use Rattle.sc_core.proofs.endings.add_births.Goals as goal

pub loop-birth-preserved : goal.loop-birth-preserved
loop-birth-preserved g c =
    new_next c.args.changes.now c.args.births.now c.loop-birth.number c.in-Some.birth.now c.loop-birth.left _ _
    (sym c.in-Some.ensures.value) c.in_ok-add_birth.ensures c.loop-birth.invariant

pub returns : goal.returns
returns g c =
    new_last c.args.changes.now c.args.births.now c.loop-birth.number c.loop-birth.left _ (sym c.in_default.ensures.value)
    c.loop-birth.invariant
