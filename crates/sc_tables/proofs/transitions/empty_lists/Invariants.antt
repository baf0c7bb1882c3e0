use Rattle.std.proofs.Common.{◌≡◌, ℕ, [], length, slice_index_or}
use Rattle.sc_tables.proofs.transitions.empty_lists.Given as goal

abbrev pub invariant-loop : goal.invariant-loop
invariant-loop l = record {
  size : length l.lists ≡ l.counter;
  each : (s : ℕ) → slice_index_or l.lists s [] ≡ [];
}
