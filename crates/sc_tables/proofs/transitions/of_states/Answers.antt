use Rattle.std.proofs.Common.{None, get_or, refl}
use Rattle.sc_tables.specs.Built.{IsAddedTo}
use Rattle.sc_tables.proofs.TransitionLists.{own-more}
use Rattle.sc_tables.proofs.transitions.of_states.Goals as goal

pub loop-number-preserved : goal.loop-number-preserved
loop-number-preserved c =
    let n = c.loop-number.number in
    let added : IsAddedTo c.loop-number.lists (get_or c.args.sources.now n None) n c.add_own.new.lists = rw c.in_ok-state_number.ensures.value at c.in_ok-add_own.ensures in
    own-more c.args.sources.now c.args.count n (get_or c.args.sources.now n None) c.loop-number.lists c.add_own.new.lists c.loop-number-test.true refl c.loop-number.invariant added
