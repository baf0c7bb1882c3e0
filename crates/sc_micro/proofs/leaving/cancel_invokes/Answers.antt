use Rattle.std.proofs.Common.{List, ◌++◌, filter, map, not, ap, sym, ◌∙◌}
use Rattle.std.specs.List.{list_any}
use Rattle.sc_types.specs.declared.effect.Effect.TheVariants.{CancelChild}
use Rattle.sc_types.specs.declared.session.Invoked.{Invoked}
use Rattle.sc_law.specs.Leaving.{is_of}
use Rattle.sc_exec.specs.Runs.{running_of}
use Rattle.sc_micro.proofs.InvokeLemmas.{cancelled-is, cancelled-none}
use Rattle.sc_micro.proofs.leaving.cancel_invokes.Goals as goal

pub returns-then-not-has_invokes-clause-ok : goal.returns-then-not-has_invokes-clause-ok
returns-then-not-has_invokes-clause-ok c =
    cancelled-none c.args.s (running_of c.args.run.now)
    (ap (list_any (is_of c.args.s)) (sym c.slice.ensures) ∙ sym c.has_invokes.ensures ∙ c.if-not-has_invokes.true)

pub returns-clause-ok : goal.returns-clause-ok
returns-clause-ok c =
    cancelled-is c.args.s (running_of c.args.run.now) c.cancel_each.new.effects c.in_ok-run.field-0
    (c.in_ok-cancel_each.ensures
    ∙ ap (λ (is : List Invoked). c.args.run.now.effects ++ map (λ (i : Invoked). CancelChild i.child)
    (filter (is_of c.args.s) is))
    c.slice-2.ensures)
    (c.in_ok-run.ensures ∙ ap (filter (λ (i : Invoked). not (is_of c.args.s i))) c.slice-3.ensures)
