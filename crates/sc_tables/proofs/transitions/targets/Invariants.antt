use Rattle.std.proofs.Common.{◌≡◌, map, take}
use Rattle.sc_types.specs.Attributes.{words_at}
use Rattle.sc_types.specs.declared.attribute.Attribute.TheVariants.{Target}
use Rattle.sc_law.specs.Nodes.{element}
use Rattle.sc_law.specs.Configurations.{named}
use Rattle.sc_tables.proofs.transitions.targets.Given as goal

abbrev pub invariant-loop-path : goal.invariant-loop-path
invariant-loop-path l = l.targets ≡ map (λ path. named l.ids (words_at Target (element l.ids path))) (take l.path-index l.paths)
