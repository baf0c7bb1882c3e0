use Rattle.std.proofs.Common.{◌≡◌, ◌∷◌}
use Rattle.std.specs.Prelude.{codes}
use Rattle.sc_types.specs.declared.command.Command.TheVariants.{Install}
use Rattle.sc_script.specs.Generated.{starts}
use Rattle.sc_script.specs.declared.generator.TheConstants.{CHART}
use Rattle.sc_script.proofs.generator.opening.Given as goal

abbrev pub invariant-loop-place : goal.invariant-loop-place
invariant-loop-place l = l.commands ≡ Install (codes "n") CHART.now ∷ starts l.place
