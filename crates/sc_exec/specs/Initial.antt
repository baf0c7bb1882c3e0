-- Which elements are data. Only contracts of private functions cite this.
use Rattle.std.specs.Prelude.{List, [], filter, flat_map, if◌then◌else◌}
use Rattle.sc_types.specs.declared.chart.Chart.{Chart}
use Rattle.sc_types.specs.declared.chart.Node.{Node}
use Rattle.sc_types.specs.declared.chart.Tag.TheVariants as tag
use Rattle.sc_law.specs.Nodes.{Path, element, is_tag, kids, tag_of}
use Rattle.sc_law.specs.Data.{with_tag}

-- the paths of data among these paths
abbrev pub data_among : Chart → List Path → List Path
data_among c paths = filter (λ path. is_tag tag.DataItem (tag_of (element c path))) paths

-- the data of the data models among these elements
abbrev pub data_in : List Node → List Node
data_in ns = flat_map kids (with_tag tag.DataModel ns)

-- the data of an element, where it is a data model
abbrev pub of_model : Node → List Node
of_model n = if is_tag tag.DataModel (tag_of n) then kids n else []
