use Rattle.std.proofs.Common.{◌≡◌, ◌-◌, ◌&&◌}
use Rattle.std.specs.List.{list_any}
use Rattle.sc_base.specs.Ascending.{contains}
use Rattle.sc_law.specs.Kinds.{is_final}
use Rattle.sc_sets.proofs.Members.{from_on}
use Rattle.sc_micro.proofs.finals.has_final.Given as goal

abbrev pub invariant-loop-child : goal.invariant-loop-child
invariant-loop-child l =
    list_any (λ a. contains l.conf.members a && is_final l.t a) (from_on l.from l.children.members)
    ≡ list_any (λ a. contains l.conf.members a && is_final l.t a) l.children.members

abbrev pub decreases-loop-child : goal.decreases-loop-child
decreases-loop-child l = l.children.width - l.from
