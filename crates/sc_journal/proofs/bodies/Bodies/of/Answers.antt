use Rattle.sc_journal.proofs.LeftLemmas.{all_left, left_of}
use Rattle.sc_journal.proofs.bodies.Bodies.of.Goals as goal

pub invariant_of-result : goal.invariant_of-result
invariant_of-result c = left_of c.args.text.items c.args.first c.args.count c.requires

pub returns : goal.returns
returns c = all_left c.args.text.items c.args.first c.args.count c.requires
