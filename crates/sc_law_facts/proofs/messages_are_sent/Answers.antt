use Rattle.std.specs.Prelude.{refl}
use Rattle.sc_law_facts.proofs.Running.{turning}
use Rattle.sc_law_facts.proofs.messages_are_sent.Goals as goal

pub returns : goal.returns
unfolding turning
returns c = refl
