use Rattle.std.proofs.Common.{◌≡◌, length}
use Rattle.std.specs.Vec.Iter.{into_iter_items, into_iter_len}
use Rattle.sc_core.proofs.LoopLemmas.{left_drafted}
use Rattle.sc_core.proofs.endings.draft_left.Given as goal

abbrev pub invariant-loop-child : goal.invariant-loop-child
invariant-loop-child g l = record {
  len : length (into_iter_items l.child-iterator) ≡ into_iter_len l.child-iterator;
  drafts : left_drafted l.draft (into_iter_items l.child-iterator) ≡ left_drafted l.fn.draft l.fn.children;
}
