use Rattle.std.proofs.Common.{◌≡◌, ◌++◌, drop, filter_map}
use Rattle.sc_law.specs.Records.{kept_by}
use Rattle.sc_sets.proofs.kept.recorded.Given as goal

abbrev pub invariant-loop-s : goal.invariant-loop-s
invariant-loop-s l =
    l.kept ++ filter_map (kept_by l.t l.conf.members l.exit.members l.h) (drop l.s-index l.s-items)
    ≡ filter_map (kept_by l.t l.conf.members l.exit.members l.h) l.s-items
