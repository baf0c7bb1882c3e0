use Rattle.std.proofs.Common.{◌≡◌, drop}
use Rattle.sc_base.specs.Folds.{each}
use Rattle.sc_law.specs.Entry.{enters, up}
use Rattle.sc_law.specs.Sets.{effective_targets}
use Rattle.sc_law.specs.Tree.{state_count}
use Rattle.sc_sets.specs.Triples.{HasWidth, triple_of}
use Rattle.sc_sets.proofs.enter.enter_targets.Given as goal

abbrev pub invariant-loop-place : goal.invariant-loop-place
invariant-loop-place l = record {
  rows : HasWidth (state_count l.t) l.e;
  rest : each (up l.t (enters l.t l.h l.domain) l.domain) (effective_targets l.t l.h (drop l.place l.targets)) (triple_of l.e)
      ≡ each (up l.t (enters l.t l.h l.domain) l.domain) (effective_targets l.t l.h l.targets) (triple_of l.initial.e);
}
