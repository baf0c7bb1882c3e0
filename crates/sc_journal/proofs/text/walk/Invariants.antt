use Rattle.std.proofs.Common.{◌-◌, length}
use Rattle.sc_journal.proofs.Reading.{HasRead}
use Rattle.sc_journal.proofs.text.walk.Given as goal

abbrev pub invariant-loop-at : goal.invariant-loop-at
invariant-loop-at l = HasRead l.text l.first l.at l.number

abbrev pub decreases-loop-at : goal.decreases-loop-at
decreases-loop-at l = length l.text - l.at
