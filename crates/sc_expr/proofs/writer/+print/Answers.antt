use Rattle.std.proofs.Common.{rules, append_assoc}
use Rattle.sc_types.specs.Expressions.{expr_text}
use Rattle.sc_expr.proofs.JoinedLemmas.{joined_first, joined_next}
use Rattle.sc_expr.proofs.writer.+print.Goals as goal
use Rattle.sc_expr.proofs.writer.+print.Goals.{put_list-then-i-gt0+in_ok-text-2, put_list-else-i-gt0}

pub put_list-loop-i-preserved : goal.put_list-loop-i-preserved
put_list-loop-i-preserved t c =
    let next = joined_next expr_text c.args.items.now c.loop-i.i c.index-items-i.result c.index-items-i.is c.loop-i-test.true in
    let first = joined_first expr_text c.args.items.now c.loop-i.i c.index-items-i.result c.index-items-i.is c.loop-i-test.true in
    elim c.if-i-gt0.branch [
      | put_list-then-i-gt0+in_ok-text-2 w ↦ rw (next w.if-i-gt0.true) (search (rules, append_assoc))
      | put_list-else-i-gt0 w ↦ rw (first w.if-i-gt0.false) (search (rules, append_assoc))
    ]
