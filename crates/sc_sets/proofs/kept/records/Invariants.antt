use Rattle.std.proofs.Common.{◌≡◌, ◌-◌, ◌++◌, filter}
use Rattle.sc_sets.proofs.Members.{from_on}
use Rattle.sc_sets.proofs.RecordSets.{is_recorded}
use Rattle.sc_sets.proofs.kept.records.Given as goal

abbrev pub invariant-loop-a : goal.invariant-loop-a
invariant-loop-a l =
    l.states ++ filter (is_recorded l.t l.deep l.parent) (from_on l.from l.conf.members) ≡ filter (is_recorded l.t l.deep l.parent) l.conf.members

abbrev pub decreases-loop-a : goal.decreases-loop-a
decreases-loop-a l = l.conf.width - l.from
