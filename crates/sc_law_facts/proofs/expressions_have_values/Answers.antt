use Rattle.std.specs.Prelude.{refl}
use Rattle.sc_law_facts.proofs.Running.{turning}
use Rattle.sc_law_facts.proofs.expressions_have_values.Goals as goal

pub returns : goal.returns
unfolding turning
returns c = refl
