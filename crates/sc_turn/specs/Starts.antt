-- Parts of starting an invoke. Only contracts of private functions cite this.
use Rattle.std.specs.Prelude.{Bool, List, [], nat_lt, true, unwrap_or, ℕ, ◌&&◌, ◌-◌, ◌^◌}
use Rattle.std.specs.Option.{option_map_or}
use Rattle.sc_types.specs.Attributes.{text_at}
use Rattle.sc_types.specs.declared.attribute.Attribute.TheVariants as attribute
use Rattle.sc_types.specs.declared.chart.Node.{Node}
use Rattle.sc_law.specs.Invokes.{is_invoke_type}

-- the type is one that there is, and one session more can be counted
abbrev pub may_start : Node → ℕ → Bool
may_start n born = option_map_or is_invoke_type (text_at attribute.Type n) true && nat_lt born (2 ^ 64 - 1)

abbrev pub src_of : Node → List ℕ
src_of n = unwrap_or (text_at attribute.Src n) []
