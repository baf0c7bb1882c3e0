use Rattle.std.proofs.Common.{arith}
use Rattle.sc_script.proofs.PieceLemmas.{cut_there, cut_nowhere}
use Rattle.sc_script.proofs.pieces.cut_piece.Goals as goal

pub returns-then-length-text-clause-piece : goal.returns-then-length-text-clause-piece
returns-then-length-text-clause-piece c =
    cut_there c.args.text.now c.piece_len-length.result c.piece_len-length.ensures (omega arith)

pub returns-else-length-text-clause-piece : goal.returns-else-length-text-clause-piece
returns-else-length-text-clause-piece c =
    cut_nowhere c.args.text.now c.piece_len-length.result c.piece_len-length.ensures c.requires (omega arith)
