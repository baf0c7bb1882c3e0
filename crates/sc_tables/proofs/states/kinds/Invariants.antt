use Rattle.std.proofs.Common.{◌≡◌, ℕ, ◌<◌, length, slice_index_or, Some}
use Rattle.sc_types.specs.declared.state_kind.StateKind.TheVariants.{Atomic}
use Rattle.sc_law.specs.Kinds.{kind_of}
use Rattle.sc_tables.proofs.states.kinds.Given as goal

abbrev pub invariant-loop-path : goal.invariant-loop-path
invariant-loop-path l = record {
  size : length l.kinds ≡ l.path-index;
  each : (s : ℕ) → s < l.path-index → Some (slice_index_or l.kinds s Atomic) ≡ kind_of l.chart s;
}
