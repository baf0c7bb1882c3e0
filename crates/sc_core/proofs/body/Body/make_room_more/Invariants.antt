use Rattle.std.proofs.Common.{length, ◌-◌}
use Rattle.sc_core.proofs.RoomLemmas.{MakesRoom}
use Rattle.sc_core.proofs.body.Body.make_room_more.Given as goal

abbrev pub invariant-loop-change : goal.invariant-loop-change
invariant-loop-change g l = MakesRoom l.more l.count l.place l.fn.self l.self

abbrev pub decreases-loop-change : goal.decreases-loop-change
decreases-loop-change g l = length l.more - l.place
