use Rattle.std.proofs.Common.{arith, ◌∙◌}
use Rattle.sc_tables.proofs.TransitionLists.{empty-more}
use Rattle.sc_tables.proofs.transitions.empty_lists.Goals as goal

pub loop-preserved : goal.loop-preserved
loop-preserved c =
    let more = empty-more c.loop.lists c.push.new.self c.loop.counter c.loop.invariant.size c.loop.invariant.each (rw c.new.ensures at c.in_ok-push.ensures.ok) in
    record { size = more.size; each = more.each }

pub returns : goal.returns
returns c = record { size = c.loop.invariant.size ∙ omega arith; each = λ s l. c.loop.invariant.each s }
