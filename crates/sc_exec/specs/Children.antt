-- The first child element of a tag. Only contracts of private functions cite this.
use Rattle.std.specs.Prelude.{List, Option, find}
use Rattle.sc_types.specs.declared.chart.Node.{Node}
use Rattle.sc_types.specs.declared.chart.Tag.{Tag}
use Rattle.sc_law.specs.Nodes.{is_tag, tag_of}

abbrev pub first_with : Tag → List Node → Option Node
first_with t ns = find (λ n. is_tag t (tag_of n)) ns
