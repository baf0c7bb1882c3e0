use Rattle.std.proofs.Common.{◌≡◌, ◌++◌, ◌∷◌, [], ◌+◌, ◌-◌, ◌^◌, ◌&&◌, false, true, nat_lt, ap, sym, ◌∙◌}
use Rattle.sc_types.specs.declared.history.Delivery.TheVariants.{Timed}
use Rattle.sc_core.specs.Bodies.{image}
use Rattle.sc_machine.specs.Deliveries.{due_time}
use Rattle.sc_core.specs.Drafts.{so_far, stepper}
use Rattle.sc_machine.specs.Hosts.{is_live}
use Rattle.sc_core.specs.declared.change.Change.TheVariants.{Delay}
use Rattle.sc_core.proofs.DraftLemmas.{delay_drafted, dropped_drafted, next_is, sender_there}
use Rattle.sc_core.proofs.body.Body.draft_delay.Goals as goal

pub returns-then-not-may_delay-clause-told : goal.returns-then-not-may_delay-clause-told
returns-then-not-may_delay-clause-told g c = λ h t sender.
    let old = c.args.draft.now in
    let found = sender_there (image c.args.self.now) c.args.place c.args.after.now h old t sender in
    let no : (is_live t.state.phase && nat_lt old.delayed (2 ^ 64 - 1)) ≡ false =
    ap (λ p. is_live p && nat_lt old.delayed (2 ^ 64 - 1)) found.is.phase ∙ sym c.if-not-may_delay.ensures in
    dropped_drafted (stepper c.args.after.now.session c.args.place) h old t c.args.to c.args.event c.args.delay sender.draft no

pub returns-clause-told : goal.returns-clause-told
returns-clause-told g c = λ h t sender.
    let old = c.args.draft.now in
    let k = so_far h old in
    let after = c.args.after.now in
    let found = sender_there (image c.args.self.now) c.args.place after h old t sender in
    let yes : (is_live t.state.phase && nat_lt old.delayed (2 ^ 64 - 1)) ≡ true =
    ap (λ p. is_live p && nat_lt old.delayed (2 ^ 64 - 1)) found.is.phase ∙ sym c.if-not-may_delay.ensures in
    let due : c.saturating_add-due.result ≡ due_time k.clock c.args.delay =
    c.saturating_add-due.ensures
    ∙ ap (λ n. due_time n c.args.delay) (sym (sender.draft.follows.clock ∙ sender.base.clock)) in
    delay_drafted (stepper after.session c.args.place) h old _ t c.args.to c.args.event c.args.delay _ _ sender.draft yes
    (next_is k t c.args.to c.args.event c.args.delay c.in_ok-copy.field-0 (old.delayed + 1) c.saturating_add-due.result
    (c.in_ok-copy.ensures ∙ sym found.is.session) (ap (λ n. n + 1) sender.draft.delayed) due)
    (ap (λ cs. record old { changes = cs; delayed = old.delayed + 1 })
    (c.in_ok-push.ensures.ok ∙ ap (λ s. old.changes ++ Delay s ∷ []) c.in_ok-send.ensures))
    (ap (λ n. Timed (old.delayed + 1) n) due)
