use Rattle.std.proofs.Common.{◌≡◌, length}
use Rattle.sc_dev.specs.Histories.{repeated}
use Rattle.sc_dev.proofs.mem_part.repeated.Given as goal

abbrev pub invariant-loop-i : goal.invariant-loop-i
invariant-loop-i l = record { bytes : l.piece.items ≡ repeated l.fill l.i; size : length l.piece.items ≡ l.i }
