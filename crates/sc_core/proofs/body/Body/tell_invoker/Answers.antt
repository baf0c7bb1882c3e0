use Rattle.std.proofs.Common.{◌≡◌, ◌++◌, Option, Some, None, ap, subst, sym, ◌∙◌}
use Rattle.sc_types.specs.declared.host.InvokerImage.{InvokerImage}
use Rattle.sc_core.specs.Bodies.{image}
use Rattle.sc_machine.specs.Endings.{tell_end}
use Rattle.sc_core.specs.Parting.{Adds}
use Rattle.sc_core.proofs.EndLemmas.{end_told, end_untold, invoked_by, tells_none, tells_nothing}
use Rattle.sc_core.proofs.RoomLemmas.{on_ok}
use Rattle.sc_core.proofs.body.Body.tell_invoker.Goals as goal

pub returns-in_default : goal.returns-in_default
returns-in_default g c = λ h s there events grown.
    let old = c.args.draft.now in
    let how = c.args.how.now in
    let none = invoked_by (image c.args.self.now) c.args.place s None there
    (c.invoker_at.ensures ∙ ap Some c.in_default.is) in
    end_untold h old s.invoker how (ap (λ o. tell_end h o how) none ∙ tells_none h how)

pub returns-in_default-2 : goal.returns-in_default-2
returns-in_default-2 g c = λ h s there events grown.
    let old = c.args.draft.now in
    let how = c.args.how.now in
    let i = c.in-Some.invoker in
    let some = invoked_by (image c.args.self.now) c.args.place s (Some i) there
    (c.invoker_at.ensures ∙ ap Some c.in-Some.is) in
    end_untold h old s.invoker how (ap (λ o. tell_end h o how) some ∙ tells_nothing h i how (sym c.in_ok-event.ensures ∙ c.in_default-2.is))

pub returns : goal.returns
returns g c = on_ok c.push.result _ _ c.push.ensures.ok (λ pushed h s there events grown.
    let old = c.args.draft.now in
    let how = c.args.how.now in
    let i = c.in-Some.invoker in
    let mid = c.draft_told.new.draft in
    let some = invoked_by (image c.args.self.now) c.args.place s (Some i) there
    (c.invoker_at.ensures ∙ ap Some c.in-Some.is) in
    let told = end_told h old mid _ i how c.in-Some-2.event c.in_ok-what.what
    (sym c.in_ok-event.ensures ∙ c.in-Some-2.is)
    (c.in_ok-what.ensures.adds h events grown) c.in_ok-what.ensures.sent (ap (λ s. record mid { sent = s }) pushed) in
    subst (λ (o : Option InvokerImage). Adds h old.changes mid.changes (tell_end h o how).host
    × (c.push.new.self ≡ old.sent ++ (tell_end h o how).sent)) (sym some) told)
