use Rattle.std.specs.Prelude.{◌≡◌, ◌+◌, ◌++◌, length}
use Rattle.std.specs.Vec.Iter.{into_iter_items, into_iter_len}
use Rattle.sc_pool.specs.Keeping.{clients_from}
use Rattle.sc_pool.proofs.jobs.clients_of.Given as goal

abbrev pub invariant-loop-commands : goal.invariant-loop-commands
invariant-loop-commands l = record {
  whole : l.clients ++ clients_from (length l.clients + 1) (into_iter_items l.commands-iterator) ≡ clients_from 1 l.fn.scripts;
  counted : length l.clients + length (into_iter_items l.commands-iterator) ≡ length l.fn.scripts;
  len : length (into_iter_items l.commands-iterator) ≡ into_iter_len l.commands-iterator;
}
