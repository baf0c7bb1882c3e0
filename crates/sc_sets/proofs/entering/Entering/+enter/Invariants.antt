use Rattle.std.proofs.Common.{◌≡◌, ◌+◌, ◌-◌, ◌*◌, ◌<◌, IfSome, [], ◌∷◌, drop}
use Rattle.std.specs.Option.{option_map_or}
use Rattle.sc_base.specs.Folds.{each}
use Rattle.sc_law.specs.Entry.{region, up}
use Rattle.sc_law.specs.Tree.{ancestors, state_count}
use Rattle.sc_sets.specs.Entering.{enters, Fits}
use Rattle.sc_sets.specs.Steps.{passed}
use Rattle.sc_sets.specs.Triples.{triple_of}
use Rattle.sc_sets.proofs.Climbing.{left}
use Rattle.sc_sets.proofs.Members.{from_on}
use Rattle.sc_sets.proofs.entering.Entering.+enter.Given as goal

abbrev pub decreases-down : goal.decreases-down
decreases-down l = 10 * l.levels

abbrev pub decreases-down_each : goal.decreases-down_each
decreases-down_each l = 10 * l.levels + 1

abbrev pub invariant-down_each-loop-s : goal.invariant-down_each-loop-s
invariant-down_each-loop-s l = record {
  rows : Fits l.self l.e;
  rest : each (enters l.self l.levels) (drop l.s-index l.ss) (triple_of l.e)
      ≡ each (enters l.self l.levels) l.ss (triple_of l.initial.e);
}

abbrev pub decreases-region : goal.decreases-region
decreases-region l = 10 * l.levels + 1

abbrev pub decreases-regions : goal.decreases-regions
decreases-regions l = 10 * l.levels + 2

abbrev pub invariant-regions-loop-child : goal.invariant-regions-loop-child
invariant-regions-loop-child l = record {
  rows : Fits l.self l.e;
  rest : each (region l.self.tables.now (enters l.self l.levels)) (from_on l.from l.children.members) (triple_of l.e)
      ≡ each (region l.self.tables.now (enters l.self l.levels)) l.children.members (triple_of l.initial.e);
}

abbrev pub decreases-regions-loop-child : goal.decreases-regions-loop-child
decreases-regions-loop-child l = l.children.width - l.from

abbrev pub decreases-through : goal.decreases-through
decreases-through l = 10 * l.levels + 3

abbrev pub decreases-pass : goal.decreases-pass
decreases-pass l = 10 * l.levels + 4

abbrev pub decreases-up : goal.decreases-up
decreases-up l = 10 * l.levels + 5

abbrev pub invariant-up-loop-next : goal.invariant-up-loop-next
invariant-up-loop-next l = record {
  within : IfSome l.next (λ p. p < state_count l.self.tables.now);
  rows : Fits l.self l.e;
  rest : each (passed l.self.tables.now (enters l.self l.levels) l.limit) (option_map_or (λ p. p ∷ ancestors l.self.tables.now p) l.next []) (triple_of l.e)
      ≡ each (passed l.self.tables.now (enters l.self l.levels) l.limit) (ancestors l.self.tables.now l.s) (triple_of l.initial.e);
}

abbrev pub decreases-up-loop-next : goal.decreases-up-loop-next
decreases-up-loop-next l = left l.next

abbrev pub decreases-up_each : goal.decreases-up_each
decreases-up_each l = 10 * l.levels + 6

abbrev pub invariant-up_each-loop-s : goal.invariant-up_each-loop-s
invariant-up_each-loop-s l = record {
  rows : Fits l.self l.e;
  rest : each (up l.self.tables.now (enters l.self l.levels) l.limit) (drop l.s-index l.ss) (triple_of l.e)
      ≡ each (up l.self.tables.now (enters l.self l.levels) l.limit) l.ss (triple_of l.initial.e);
}

abbrev pub decreases-reach : goal.decreases-reach
decreases-reach l = 10 * l.levels + 7

abbrev pub decreases-by_default : goal.decreases-by_default
decreases-by_default l = 10 * l.levels + 8

abbrev pub decreases-recall : goal.decreases-recall
decreases-recall l = 10 * l.levels + 8
