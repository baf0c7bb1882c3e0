use Rattle.std.proofs.Common.{ap}
use Rattle.sc_law_facts.proofs.Names.{turn_keeps}
use Rattle.sc_law_facts.proofs.names_stay.Goals as goal

pub returns-clause-session : goal.returns-clause-session
returns-clause-session c chart s cue = ap (λ k. k.0) (turn_keeps chart s cue)

pub returns-clause-chart : goal.returns-clause-chart
returns-clause-chart c chart s cue = ap (λ k. k.1) (turn_keeps chart s cue)

pub returns-clause-params : goal.returns-clause-params
returns-clause-params c chart s cue = ap (λ k. k.2) (turn_keeps chart s cue)
