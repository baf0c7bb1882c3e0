use Rattle.std.proofs.Common.{sym, ◌∙◌}
use Rattle.sc_core.specs.Parting.{cuts}
use Rattle.sc_core.proofs.LoopLemmas.{any_here, any_next, any_none}
use Rattle.sc_core.proofs.endings.is_cut_in.Goals as goal

pub returns-then-cuts : goal.returns-then-cuts
returns-then-cuts g c =
    sym (c.loop-change.invariant ∙ any_here (cuts c.args.place) c.args.changes.now c.loop-change.number c.in-Some.change.now
    (sym c.in-Some.ensures.value) (sym c.cuts.ensures ∙ c.if-cuts.true))

pub loop-change-preserved : goal.loop-change-preserved
loop-change-preserved g c =
    c.loop-change.invariant ∙ any_next (cuts c.args.place) c.args.changes.now c.loop-change.number c.in-Some.change.now
    (sym c.in-Some.ensures.value) (sym c.cuts.ensures ∙ c.if-cuts.false)

pub returns : goal.returns
returns g c =
    sym (c.loop-change.invariant ∙ any_none (cuts c.args.place) c.args.changes.now c.loop-change.number (sym c.in_default.ensures.value))
