use Rattle.std.proofs.Common.{◌≡◌, ap, subst, sym, OnOk}
use Rattle.std.proofs.lemmas.Result.{on_ok_weaker}
use Rattle.sc_types.specs.declared.effect.Effect.TheVariants.{Send}
use Rattle.sc_types.specs.declared.event.Event.{Event}
use Rattle.sc_law.specs.Outcomes.{done}
use Rattle.sc_law.specs.Runs.{with_effect}
use Rattle.sc_exec.specs.Runs.{running_of}
use Rattle.sc_exec.proofs.sending.post_outside.Goals as goal

pub returns-clause-ok : goal.returns-clause-ok
returns-clause-ok c =
    on_ok_weaker c.add_effect.result (λ e. ap done (sym e))
    (subst (λ (e : Event). OnOk c.add_effect.result (running_of c.add_effect.new.run ≡ with_effect (Send e c.args.to c.args.delay) (running_of c.args.run.now)))
    c.in_ok-event.ensures c.add_effect.ensures.ok)
