use Rattle.std.proofs.Common.{◌≡◌, ◌++◌, drop}
use Rattle.sc_law.specs.Legality.{targets}
use Rattle.sc_valid.proofs.index.ChartIndex.targets.Given as goal

abbrev pub invariant-loop-id : goal.invariant-loop-id
invariant-loop-id l = l.targets ++ targets l.self (drop l.id-index l.ids) ≡ targets l.self l.ids
