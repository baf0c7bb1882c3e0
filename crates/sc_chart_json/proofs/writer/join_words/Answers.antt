use Rattle.std.proofs.Common.{rules, append_assoc}
use Rattle.sc_chart_json.proofs.Printed.Writing.{join_first, join_next}
use Rattle.sc_chart_json.proofs.writer.join_words.Goals as goal
use Rattle.sc_chart_json.proofs.writer.join_words.Goals.{then-i-gt0+in_ok-push, else-i-gt0}

pub loop-i-preserved : goal.loop-i-preserved
loop-i-preserved c =
    let next = join_next c.args.words.now c.loop-i.i c.index-words-i.result c.index-words-i.is c.loop-i-test.true in
    let first = join_first c.args.words.now c.loop-i.i c.index-words-i.result c.index-words-i.is c.loop-i-test.true in
    elim c.if-i-gt0.branch [
      | then-i-gt0+in_ok-push w ↦ rw (next w.if-i-gt0.true) (search (rules, append_assoc))
      | else-i-gt0 w ↦ rw (first w.if-i-gt0.false) (search (rules, append_assoc))
    ]
