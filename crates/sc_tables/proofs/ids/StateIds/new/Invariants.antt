use Rattle.std.proofs.Common.{take}
use Rattle.sc_tables.specs.Ids.{AreNumbers}
use Rattle.sc_tables.proofs.ids.StateIds.new.Given as goal

abbrev pub invariant-loop-place : goal.invariant-loop-place
invariant-loop-place l = AreNumbers l.numbers l.chart (take l.place l.paths)
