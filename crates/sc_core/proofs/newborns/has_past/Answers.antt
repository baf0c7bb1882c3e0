use Rattle.std.proofs.Common.{sym, ◌∙◌}
use Rattle.sc_core.specs.Newborns.{is_past}
use Rattle.sc_core.proofs.LoopLemmas.{any_here, any_next, any_none}
use Rattle.sc_core.proofs.newborns.has_past.Goals as goal

pub returns-then-is_past : goal.returns-then-is_past
returns-then-is_past g c =
    sym (c.loop-change.invariant ∙ any_here (λ d. is_past c.args.first d) c.args.changes.now c.loop-change.number c.in-Some.change.now
    (sym c.in-Some.ensures.value) (sym c.is_past.ensures ∙ c.if-is_past.true))

pub loop-change-preserved : goal.loop-change-preserved
loop-change-preserved g c =
    c.loop-change.invariant ∙ any_next (λ d. is_past c.args.first d) c.args.changes.now c.loop-change.number c.in-Some.change.now
    (sym c.in-Some.ensures.value) (sym c.is_past.ensures ∙ c.if-is_past.false)

pub returns : goal.returns
returns g c =
    sym (c.loop-change.invariant ∙ any_none (λ d. is_past c.args.first d) c.args.changes.now c.loop-change.number (sym c.in_default.ensures.value))
