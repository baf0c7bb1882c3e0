use Rattle.sc_top.proofs.StatusLemmas.{not_out}
use Rattle.sc_top.proofs.program.top.Goals as goal

pub returns-in-Ok-clause-none : goal.returns-in-Ok-clause-none
returns-in-Ok-clause-none g c = λ out. absurd (not_out c.in-Ok.saying c.say.result c.say.ensures.status out)

pub returns-in-Ok-clause-left : goal.returns-in-Ok-clause-left
returns-in-Ok-clause-left g c = λ out. absurd (not_out c.in-Ok.saying c.say.result c.say.ensures.status out)
