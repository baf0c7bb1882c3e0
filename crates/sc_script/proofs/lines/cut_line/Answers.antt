use Rattle.std.proofs.Common.{arith}
use Rattle.sc_script.proofs.CutLemmas.{cut_there, cut_nowhere}
use Rattle.sc_script.proofs.lines.cut_line.Goals as goal

pub returns-then-length-text-clause-line : goal.returns-then-length-text-clause-line
returns-then-length-text-clause-line c =
    cut_there c.args.text.now c.line_len-length.result c.line_len-length.ensures (omega arith)

pub returns-else-length-text-clause-line : goal.returns-else-length-text-clause-line
returns-else-length-text-clause-line c =
    cut_nowhere c.args.text.now c.line_len-length.result c.line_len-length.ensures c.requires (omega arith)
