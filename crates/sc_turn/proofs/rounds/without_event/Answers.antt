use Rattle.std.proofs.Common.{List, ℕ, ap, sym, ◌∙◌}
use Rattle.sc_turn.specs.States.{state_of}
use Rattle.sc_turn.proofs.EventlessLemmas.{none-selected}
use Rattle.sc_turn.proofs.rounds.without_event.Goals as goal

pub returns-then-not-has_eventless-clause-ok : goal.returns-then-not-has_eventless-clause-ok
returns-then-not-has_eventless-clause-ok c =
    let x = state_of c.args.x.now in
    none-selected c.args.plan.now x (sym c.has_eventless.ensures ∙ c.if-not-has_eventless.true)
    ∙ ap (λ (ts : List ℕ). record { transitions = ts; run = x }) (sym c.new.ensures)
