-- Charts as JSON texts: the first fault of a text, and the chart that a text without one spells. SCXML 3.2 to 3.14 and
-- chapters 4 to 6 have the elements; that a chart is a tree of JSON objects, and the faults with their order, are this
-- host's own rule. `code_of` stands for the reading of expressions.
use Rattle.std.specs.Prelude.{ℕ, zero, suc, ◌+◌, Bool, true, false, not, ◌&&◌, ◌||◌, nat_le, nat_lt, if◌then◌else◌, is_some, is_none, Option, None, Some, option_map, option_and_then, unwrap_or, List, [], ◌∷◌, ◌++◌, length, find, sum, codes, Result, Ok, Err}
use Rattle.std.specs.List.{list_all, list_any, filter_map}
use Rattle.std.specs.Option.{option_map_or}
use Rattle.std.specs.Str.{bytes_eq, is_utf8}
use Rattle.serde_json.specs.Data.{Data, null, Items, no_items, item, Members, no_members, member}
use Rattle.serde_json.specs.Find.{get, as_str, as_array, as_object}
use Rattle.serde_json.specs.Read.{read}
use Rattle.sc_types.specs.Descriptors.{pieces}
use Rattle.sc_types.specs.Profiles.{profile_named}
use Rattle.sc_types.specs.Elements.{tag_of, is_numbered, attribute_text, attributes, required, either, form_of, has_form, is_code}
use Rattle.sc_types.specs.declared.attribute.Attribute.{Attribute}
use Rattle.sc_types.specs.declared.faults.TheConstants.{NOT_JSON, NOT_ELEMENT, UNKNOWN_TAG, UNKNOWN_MEMBER, BAD_MEMBER, BAD_EXPR, TOO_DEEP, TOO_MANY, TOO_LARGE}
use Rattle.sc_types.specs.declared.limits.TheConstants.{CHART_TEXT_LIMIT, LEVEL_LIMIT, STATE_LIMIT}
use Rattle.sc_types.specs.declared.attribute.Form.{Form}
use Rattle.sc_types.specs.declared.attribute.Form.TheVariants as form
use Rattle.sc_types.specs.declared.chart.Chart.{Chart}
use Rattle.sc_types.specs.declared.chart.ChartFault.{ChartFault}
use Rattle.sc_types.specs.declared.chart.Member.{Member}
use Rattle.sc_types.specs.declared.chart.Member.TheVariants.{Plain, Items as Words, Code}
use Rattle.sc_types.specs.declared.chart.Node.{Node, roll-Node}
use Rattle.sc_types.specs.declared.chart.Node.TheFolds.{fold-Node}
use Rattle.sc_types.specs.declared.chart.Node.TheOpen.{Node-F}
use Rattle.sc_types.specs.declared.chart.Tag.{Tag}
use Rattle.sc_types.specs.declared.chart.Tag.TheVariants.{Scxml}
use Rattle.sc_types.specs.declared.expr.Expr.{Expr}
use Rattle.sc_types.specs.declared.profile.Profile.{Profile}
use Rattle.sc_types.specs.declared.profile.Profile.TheVariants.{Flat}

-- how texts are read as expressions, in one profile and in each
abbrev pub Reading : Type 0
Reading = List ℕ → Option Expr

abbrev pub Readings : Type 0
Readings = Profile → Reading

-- what an element has

abbrev pub text_at : List ℕ → Data → Option (List ℕ)
text_at name d = option_and_then as_str (get name d)

abbrev pub tag_at : Data → Option Tag
tag_at d = option_and_then tag_of (text_at (codes "tag") d)

-- `kids` may be missing
abbrev pub kids_at : Data → Items
kids_at d = unwrap_or (option_and_then as_array (get (codes "kids") d)) no_items

-- the elements in document order, each with the places that lead to it from the root

pub record Place : Type 0 where
  pub path : List ℕ
  pub value : Data

abbrev pub kid_places : (List ℕ → Data → List Place) → List ℕ → ℕ → Items → List Place
kid_places below path k no_items = []
kid_places below path k (item d ds) = below (path ++ k ∷ []) d ++ kid_places below path (suc k) ds

-- down to so many levels
abbrev pub places : ℕ → List ℕ → Data → List Place
places zero path d = []
places (suc levels) path d = record { path = path; value = d } ∷ kid_places (places levels) path 0 (kids_at d)

-- faults

abbrev pub fault : ℕ → List ℕ → List ℕ → ChartFault
fault number path name = record { number = number; path = path; member = name }

-- unknown members

abbrev pub is_known : Tag → List ℕ → Bool
is_known tag name =
    bytes_eq name (codes "tag") || bytes_eq name (codes "kids")
    || list_any (λ a. bytes_eq name (attribute_text a)) (attributes tag)

abbrev pub are_known : Tag → Members → Bool
are_known tag no_members = true
are_known tag (member name d ms) = is_known tag name && are_known tag ms

abbrev pub has_known_members : Tag → Data → Bool
has_known_members tag d = option_map_or (are_known tag) (as_object d) true

-- members of another form

abbrev pub is_given : Data → Attribute → Bool
is_given d a = is_some (get (attribute_text a) d)

abbrev pub has_fit_kids : Data → Bool
has_fit_kids d = option_map_or (λ kids. is_some (as_array kids)) (get (codes "kids") d) true

abbrev pub is_fit : Tag → Data → Attribute → Bool
is_fit tag d a =
    option_map_or (λ v. option_map_or (has_form (form_of tag a)) (as_str v) false) (get (attribute_text a) d) true

abbrev pub has_one : Data → Attribute × Attribute → Bool
has_one d two = if is_given d two.0 then not (is_given d two.1) else is_given d two.1

abbrev pub has_fit_members : Tag → Data → Bool
has_fit_members tag d = has_fit_kids d && list_all (is_fit tag d) (attributes tag)
    && list_all (is_given d) (required tag) && option_map_or (has_one d) (either tag) true

-- expressions outside the grammar

abbrev pub is_bad_code : Reading → Tag → Data → Attribute → Bool
is_bad_code code_of tag d a =
    is_code (form_of tag a) && option_map_or (λ text. is_none (code_of text)) (text_at (attribute_text a) d) false

-- the first by name
abbrev pub bad_code : Reading → Tag → Data → Option Attribute
bad_code code_of tag d = find (is_bad_code code_of tag d) (attributes tag)

-- one state more than a chart may have
abbrev pub many_fault : ℕ → List ℕ → Tag → Option ChartFault
many_fault before path tag =
    if is_numbered tag && nat_le STATE_LIMIT before then Some (fault TOO_MANY path []) else None

-- what is wrong with an element of a known tag, where so many states stand before it
abbrev pub tagged_fault : Reading → ℕ → Place → Tag → Option ChartFault
tagged_fault code_of before p tag =
    if not (has_known_members tag p.value) then Some (fault UNKNOWN_MEMBER p.path [])
    else if not (has_fit_members tag p.value) then Some (fault BAD_MEMBER p.path [])
    else option_map_or (λ a. Some (fault BAD_EXPR p.path (attribute_text a)))
    (bad_code code_of tag p.value)
    (many_fault before p.path tag)

-- the first fault of an element itself
unfoldable pub own_fault : Reading → ℕ → Place → Option ChartFault
own_fault code_of before p =
    if is_none (text_at (codes "tag") p.value) then Some (fault NOT_ELEMENT p.path [])
    else if nat_le LEVEL_LIMIT (length p.path) then Some (fault TOO_DEEP p.path [])
    else option_map_or (tagged_fault code_of before p) (tag_at p.value) (Some (fault UNKNOWN_TAG p.path []))

abbrev pub states_at : Place → ℕ
states_at p = if option_map_or is_numbered (tag_at p.value) false then 1 else 0

abbrev pub or_else : Option ChartFault → Option ChartFault → Option ChartFault
or_else None later = later
or_else (Some f) later = Some f

abbrev pub first_fault : Reading → ℕ → List Place → Option ChartFault
first_fault code_of before [] = None
first_fault code_of before (p ∷ ps) =
    or_else (own_fault code_of before p) (first_fault code_of (before + states_at p) ps)

-- the levels that are looked at: one more than a chart may have
abbrev pub levels : ℕ
levels = LEVEL_LIMIT + 1

-- the profile that a chart asks for; where its `values` is not of its form, that of a chart without it
abbrev pub profile_at : Data → Profile
profile_at d = unwrap_or (option_and_then profile_named (text_at (codes "values") d)) Flat

unfoldable pub value_fault : Readings → Data → Option ChartFault
value_fault code_of d = first_fault (code_of (profile_at d)) 0 (places levels [] d)

-- none where `serde_json` reads no value
abbrev pub json_of : List ℕ → Option Data
json_of text = if is_utf8 text then read text else None

-- the first fault of a text
unfoldable pub fault_of : Readings → List ℕ → Option ChartFault
fault_of code_of text =
    if nat_lt CHART_TEXT_LIMIT (length text) then Some (fault TOO_LARGE [] [])
    else option_map_or (value_fault code_of) (json_of text) (Some (fault NOT_JSON [] []))

-- the tree, where there is no fault

abbrev pub node : Tag → List (List ℕ × Member) → List Node → Node
node tag members kids = roll-Node (record { tag = tag; members = members; kids = kids })

-- `version` and `xmlns` are not kept
abbrev pub member_of : Reading → Form → List ℕ → Option Member
member_of code_of form.Code text = option_map Code (code_of text)
member_of code_of form.Ids text = Some (Words (pieces text))
member_of code_of form.Descriptors text = Some (Words (pieces text))
member_of code_of form.PlainNames text = Some (Words (pieces text))
member_of code_of form.Version text = None
member_of code_of form.NameSpace text = None
member_of code_of f text = Some (Plain text)

abbrev pub member_at : Reading → Tag → Data → Attribute → Option (List ℕ × Member)
member_at code_of tag d a =
    option_and_then (λ text. option_map (λ m. (attribute_text a, m)) (member_of code_of (form_of tag a) text))
    (text_at (attribute_text a) d)

abbrev pub members_at : Reading → Tag → Data → List (List ℕ × Member)
members_at code_of tag d = filter_map (member_at code_of tag d) (attributes tag)

abbrev pub kid_trees : (Data → Node) → Items → List Node
kid_trees below no_items = []
kid_trees below (item d ds) = below d ∷ kid_trees below ds

abbrev pub tagged_tree : Reading → (Data → Node) → Data → Tag → Node
tagged_tree code_of below d tag = node tag (members_at code_of tag d) (kid_trees below (kids_at d))

abbrev pub tree : Reading → ℕ → Data → Node
tree code_of zero d = node Scxml [] []
tree code_of (suc more) d = tagged_tree code_of (tree code_of more) d (unwrap_or (tag_at d) Scxml)

unfoldable pub value_chart : Readings → Data → Chart
value_chart code_of d = record { root = tree (code_of (profile_at d)) levels d }

-- what a text spells: a chart, or its first fault
abbrev pub chart_of : Readings → List ℕ → Result Chart ChartFault
chart_of code_of text =
    option_map_or Err (fault_of code_of text) (Ok (value_chart code_of (unwrap_or (json_of text) null)))

-- how many states a chart has, with parallels, finals and histories

abbrev pub state_step : Node-F ℕ → ℕ
state_step n = (if is_numbered n.tag then 1 else 0) + sum n.kids

unfoldable pub states_in : Node → ℕ
states_in n = fold-Node ℕ state_step n

abbrev pub count_states : Chart → ℕ
count_states c = states_in c.root
