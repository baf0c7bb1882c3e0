use Rattle.std.proofs.Common.{◌≡◌, drop}
use Rattle.sc_law.specs.Legality.{first_fault}
use Rattle.sc_valid.proofs.index.ChartIndex.first_fault.Given as goal

abbrev pub invariant-loop-path : goal.invariant-loop-path
invariant-loop-path l = first_fault l.self (drop l.path-index l.paths) ≡ first_fault l.self l.paths
