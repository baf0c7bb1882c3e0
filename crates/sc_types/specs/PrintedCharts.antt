-- Charts as they are printed: the compact JSON of the tree. This host's own rule.
use Rattle.std.specs.Prelude.{ℕ, List, [], ◌∷◌, codes}
use Rattle.std.specs.List.{join_with_byte}
use Rattle.serde_json.specs.Data.{Data, string, array, object, Items, no_items, item, Members, no_members, put}
use Rattle.serde_json.specs.View.{items_of}
use Rattle.serde_json.specs.Written.{compact_text}
use Rattle.sc_types.specs.Elements.{tag_text}
use Rattle.sc_types.specs.Expressions.{expr_text}
use Rattle.sc_types.specs.declared.chart.Chart.{Chart}
use Rattle.sc_types.specs.declared.chart.Member.{Member}
use Rattle.sc_types.specs.declared.chart.Member.TheVariants.{Plain, Items as Words, Code}
use Rattle.sc_types.specs.declared.chart.Node.{Node}
use Rattle.sc_types.specs.declared.chart.Node.TheFolds.{fold-Node}
use Rattle.sc_types.specs.declared.chart.Node.TheOpen.{Node-F}

-- lists with single spaces
abbrev pub member_text : Member → List ℕ
member_text (Plain text) = text
member_text (Words words) = join_with_byte 32 words
member_text (Code e) = expr_text e

-- `put` keeps the members of an object ascending by name
abbrev pub put_members : List (List ℕ × Member) → Members → Members
put_members [] given = given
put_members (m ∷ more) given = put_members more (put m.0 (string (member_text m.1)) given)

-- only where there are some
abbrev pub put_kids : Items → Members → Members
put_kids no_items given = given
put_kids (item d ds) given = put (codes "kids") (array (item d ds)) given

-- an element as a JSON value, from those of its child elements
abbrev pub data_step : Node-F Data → Data
data_step n = object
    (put (codes "tag") (string (tag_text n.tag)) (put_kids (items_of n.kids) (put_members n.members no_members)))

unfoldable pub data_of : Node → Data
data_of n = fold-Node Data data_step n

unfoldable pub chart_text : Chart → List ℕ
chart_text c = compact_text (data_of c.root)
