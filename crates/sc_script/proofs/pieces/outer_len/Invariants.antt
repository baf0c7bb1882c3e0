use Rattle.std.proofs.Common.{◌≡◌, ◌+◌, drop}
use Rattle.sc_script.specs.Pairs.{start}
use Rattle.sc_script.specs.Pieces.{piece_len}
use Rattle.sc_script.proofs.pieces.outer_len.Given as goal

abbrev pub invariant-loop-i : goal.invariant-loop-i
invariant-loop-i l = l.i + piece_len l.place (drop l.i l.text) ≡ piece_len start l.text
