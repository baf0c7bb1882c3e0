use Rattle.std.proofs.Common.{◌≡◌, ◌++◌, drop, filter, option_copied}
use Rattle.sc_types.specs.declared.chart.Tag.TheVariants.{Transition}
use Rattle.sc_law.specs.Nodes.{tag_of, is_tag}
use Rattle.sc_law.specs.Only.{listed}
use Rattle.sc_law.proofs.defaults.only_transition.Given as goal

abbrev pub invariant-loop-kid : goal.invariant-loop-kid
invariant-loop-kid l =
    listed (option_copied l.found) ++ filter (λ kid. is_tag Transition (tag_of kid)) (drop l.kid-index l.kids)
    ≡ filter (λ kid. is_tag Transition (tag_of kid)) l.kids
