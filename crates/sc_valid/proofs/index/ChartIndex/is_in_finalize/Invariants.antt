use Rattle.std.proofs.Common.{◌≡◌, length, ◌≤◌}
use Rattle.sc_law.specs.Legality.{is_in_finalize}
use Rattle.sc_valid.proofs.index.ChartIndex.is_in_finalize.Given as goal

abbrev pub invariant-loop-count : goal.invariant-loop-count
invariant-loop-count l = record {
  within : l.count ≤ length l.path;
  above : is_in_finalize l.self (length l.path) l.path ≡ is_in_finalize l.self l.count l.path;
}

abbrev pub decreases-loop-count : goal.decreases-loop-count
decreases-loop-count l = l.count
