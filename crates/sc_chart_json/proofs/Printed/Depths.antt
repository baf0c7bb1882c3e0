-- What is printed of a tree has no floats, and nests little.
use Rattle.std.proofs.Common.{◌≡◌, ℕ, zero, suc, ◌+◌, ◌*◌, ◌≤◌, max, false, unwrap_or, List, [], ◌∷◌, codes, map, refl, sym, ap, ◌∙◌, subst, arith}
use Rattle.std.proofs.lemmas.Bool.{or_from}
use Rattle.serde_json.specs.Data.{Data, string, array, Items, no_items, item, Members, no_members, put, depth, items_depth, members_depth}
use Rattle.serde_json.specs.View.{items_of}
use Rattle.serde_json.specs.Written.{has_float, items_have_float, members_have_float}
use Rattle.sc_types.specs.ChartTexts.{Reading, tag_at, kids_at, members_at, kid_trees, tree, node}
use Rattle.sc_types.specs.Elements.{tag_text}
use Rattle.sc_types.specs.PrintedCharts.{put_members, put_kids, data_step, data_of}
use Rattle.sc_types.specs.declared.chart.Member.{Member}
use Rattle.sc_types.specs.declared.chart.Node.{Node}
use Rattle.sc_types.specs.declared.chart.Node.TheFolds.{ind-Node}
use Rattle.sc_types.specs.declared.chart.Node.TheOpen.{Node-F}
use Rattle.sc_types.specs.declared.chart.Tag.{Tag}
use Rattle.sc_types.specs.declared.chart.Tag.TheVariants.{Scxml}
use Rattle.sc_chart_json.proofs.Printed.Objects.{value, depth-put, float-put}
use Rattle.sc_chart_json.proofs.Printed.Trees.{reprint, node_data}

-- ---- no floats

members_no_float : (ms : List (List ℕ × Member)) (given : Members) → members_have_float given ≡ false → members_have_float (put_members ms given) ≡ false
members_no_float [] given none = none
members_no_float (m ∷ ms) given none = members_no_float ms (put m.0 (value m.1) given) (float-put m.0 (value m.1) given refl none)

kids_no_float : (ds : Items) (given : Members) → items_have_float ds ≡ false → members_have_float given ≡ false → members_have_float (put_kids ds given) ≡ false
kids_no_float no_items given below none = none
kids_no_float (item d ds) given below none = float-put (codes "kids") (array (item d ds)) given below none

step_no_float : (n : Node-F Data) → items_have_float (items_of n.kids) ≡ false → has_float (data_step n) ≡ false
step_no_float n below =
    float-put (codes "tag") (string (tag_text n.tag)) (put_kids (items_of n.kids) (put_members n.members no_members)) refl
    (kids_no_float (items_of n.kids) (put_members n.members no_members) below (members_no_float n.members no_members refl))

abbrev HasNoFloat : Node → Type 0
HasNoFloat n = has_float (data_of n) ≡ false

all_no_float : (ns : List ((n : Node) × HasNoFloat n)) → items_have_float (items_of (map data_of (map (λ e. e.0) ns))) ≡ false
all_no_float [] = refl
all_no_float (n ∷ ns) = or_from (has_float (data_of n.0)) _ n.1 (all_no_float ns)

-- what is printed of an element has no float, so that its text is exact
pub no_float : (n : Node) → has_float (data_of n) ≡ false
no_float = ind-Node HasNoFloat (λ x y is.
    let inner = subst (λ z. items_have_float (items_of (map data_of z.kids)) ≡ false) is (all_no_float y.kids) in
    ap has_float (node_data x.tag x.members x.kids) ∙ step_no_float record { tag = x.tag; members = x.members; kids = map data_of x.kids } inner)

-- ---- two levels for each of the elements

members_shallow : (ms : List (List ℕ × Member)) (given : Members) → members_depth (put_members ms given) ≤ members_depth given
members_shallow [] given = omega arith
members_shallow (m ∷ ms) given = omega (arith, members_shallow ms (put m.0 (value m.1) given), depth-put m.0 (value m.1) given)

kids_shallow : (ds : Items) (given : Members) → members_depth (put_kids ds given) ≤ max (suc (items_depth ds)) (members_depth given)
kids_shallow no_items given = omega arith
kids_shallow (item d ds) given = depth-put (codes "kids") (array (item d ds)) given

step_shallow : (n : Node-F Data) → depth (data_step n) ≤ 2 + items_depth (items_of n.kids)
step_shallow n =
    let members = put_members n.members no_members in
    let kids = put_kids (items_of n.kids) members in
    omega (arith, depth-put (codes "tag") (string (tag_text n.tag)) kids, kids_shallow (items_of n.kids) members, members_shallow n.members no_members)

items_shallow : (below : Data → Node) (most : ℕ) → ((d : Data) → depth (data_of (below d)) ≤ most) → (ds : Items)
    → items_depth (items_of (map data_of (kid_trees below ds))) ≤ most
items_shallow below most bound no_items = omega arith
items_shallow below most bound (item d ds) = omega (arith, bound d, items_shallow below most bound ds)

node_shallow : (tag : Tag) (members : List (List ℕ × Member)) (kids : List Node) → depth (data_of (node tag members kids)) ≤ 2 + items_depth (items_of (map data_of kids))
node_shallow tag members kids =
    subst (λ d. depth d ≤ 2 + items_depth (items_of (map data_of kids))) (sym (node_data tag members kids))
    (step_shallow record { tag = tag; members = members; kids = map data_of kids })

-- what is printed of a tree nests at most two levels of JSON for each level of elements, and two more
pub printed_shallow : (code_of : Reading) (levels : ℕ) (d : Data) → depth (reprint code_of levels d) ≤ 2 * levels + 2
printed_shallow code_of zero d = node_shallow Scxml [] []
printed_shallow code_of (suc levels) d =
    let tag = unwrap_or (tag_at d) Scxml in
    let kids = kid_trees (tree code_of levels) (kids_at d) in
    let here = node_shallow tag (members_at code_of tag d) kids in
    let below = items_shallow (tree code_of levels) (2 * levels + 2) (printed_shallow code_of levels) (kids_at d) in
    omega (arith, here, below)
