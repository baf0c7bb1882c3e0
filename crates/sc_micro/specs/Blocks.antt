-- The data of a final state among its child elements. Only contracts of private functions cite this.
use Rattle.std.specs.Prelude.{List, []}
use Rattle.std.specs.Option.{option_map_or}
use Rattle.sc_types.specs.declared.chart.Node.{Node}
use Rattle.sc_types.specs.declared.chart.Tag.TheVariants as tag
use Rattle.sc_law.specs.Nodes.{kids}
use Rattle.sc_exec.specs.Children.{first_with}

-- the child elements of the first `donedata` among these elements
abbrev pub done_kids : List Node → List Node
done_kids ns = option_map_or kids (first_with tag.DoneData ns) []
