use Rattle.std.proofs.Common.{◌≡◌, ◌+◌, ◌-◌, ◌*◌}
use Rattle.std.specs.List.{list_all}
use Rattle.sc_law.specs.Entering.{is_in_final}
use Rattle.sc_sets.proofs.Members.{from_on}
use Rattle.sc_micro.proofs.finals.+done.Given as goal

abbrev pub decreases-is_in_final : goal.decreases-is_in_final
decreases-is_in_final l = 2 * l.levels

abbrev pub decreases-are_in_final : goal.decreases-are_in_final
decreases-are_in_final l = 2 * l.levels + 1

abbrev pub invariant-are_in_final-loop-child : goal.invariant-are_in_final-loop-child
invariant-are_in_final-loop-child l =
    list_all (is_in_final l.t l.conf.members l.levels) (from_on l.from l.children.members)
    ≡ list_all (is_in_final l.t l.conf.members l.levels) l.children.members

abbrev pub decreases-are_in_final-loop-child : goal.decreases-are_in_final-loop-child
decreases-are_in_final-loop-child l = l.children.width - l.from
