use Rattle.std.proofs.Common.{◌≡◌, ◌<◌, All, drop, length}
use Rattle.sc_base.specs.Folds.{each}
use Rattle.sc_law.specs.Selection.{keep, kept_of}
use Rattle.sc_law.specs.Transitions.{transition_paths}
use Rattle.sc_select.specs.Exits.{AreExits}
use Rattle.sc_select.proofs.kept.kept_of.Given as goal

abbrev pub invariant-loop-tr : goal.invariant-loop-tr
invariant-loop-tr l = record {
  exits : AreExits l.t l.h l.conf.members l.kept l.exits;
  within : All (λ tr. tr < length (transition_paths l.t)) l.kept;
  steps : each (keep l.t l.h l.conf.members) (drop l.tr-index l.chosen) l.kept
      ≡ kept_of l.t l.h l.conf.members l.chosen;
}
