use Rattle.std.proofs.Common.{take}
use Rattle.sc_eval.specs.Places.{IsIndex}
use Rattle.sc_eval.proofs.index.index_of.Given as goal

abbrev pub invariant-loop-place : goal.invariant-loop-place
invariant-loop-place l = IsIndex l.places (take l.place l.rows)
