use Rattle.std.specs.Prelude.{refl}
use Rattle.sc_law_facts.proofs.Running.{turning}
use Rattle.sc_law_facts.proofs.histories_are_recalled.Goals as goal

pub returns : goal.returns
unfolding turning
returns c = refl
