use Rattle.std.proofs.Common.{◌≡◌, drop}
use Rattle.sc_base.specs.Folds.{each}
use Rattle.sc_law.specs.Entry.{entry_of, no_entry}
use Rattle.sc_law.specs.Tree.{state_count}
use Rattle.sc_sets.specs.Triples.{HasWidth, triple_of}
use Rattle.sc_sets.proofs.entry.entry_rows.Given as goal

abbrev pub invariant-loop-tr : goal.invariant-loop-tr
invariant-loop-tr l = record {
  rows : HasWidth (state_count l.t) l.e;
  rest : each (entry_of l.t l.before l.h) (drop l.tr-index l.trs) (triple_of l.e) ≡ each (entry_of l.t l.before l.h) l.trs no_entry;
}
