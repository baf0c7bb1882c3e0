use Rattle.std.proofs.Common.{◌≡◌, drop}
use Rattle.sc_report.specs.Summary.{counted}
use Rattle.sc_report.proofs.totals.counted.Given as goal

abbrev pub invariant-loop-datum : goal.invariant-loop-datum
invariant-loop-datum l = counted (drop l.datum-index l.values) ≡ counted l.values
