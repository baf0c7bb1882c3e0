use Rattle.std.proofs.Common.{◌≡◌, ◌≤◌, drop, vec_capacity}
use Rattle.sc_base.specs.Folds.{each}
use Rattle.sc_dev.specs.Histories.{fill_range}
use Rattle.sc_dev.proofs.mem_part.fill_ranges.Given as goal

abbrev pub invariant-loop-range : goal.invariant-loop-range
invariant-loop-range l = record {
  room : vec_capacity l.initial.bytes ≤ vec_capacity l.bytes;
  rest : each (fill_range l.fill) (drop l.range-index l.ranges) l.bytes.items ≡ each (fill_range l.fill) l.ranges l.initial.bytes.items;
}
