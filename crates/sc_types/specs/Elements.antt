-- The elements of a chart, the attributes that each may have, and what the texts of these may be. SCXML 3.2 to 3.14,
-- chapters 4 to 6; the limits, and which names stand for what, are this host's own rule.
use Rattle.std.specs.Prelude.{ℕ, ◌-◌, ◌^◌, ◌==◌, Bool, true, false, not, ◌&&◌, ◌||◌, nat_le, nat_lt, is_some, Option, None, Some, List, [], ◌∷◌, length, slice_index, find, codes}
use Rattle.std.specs.List.{list_all}
use Rattle.std.specs.Str.{bytes_eq}
use Rattle.std.specs.Str.Parse.{digits_value}
use Rattle.sc_types.specs.Delays.{are_digits, delay_of}
use Rattle.sc_types.specs.Descriptors.{is_white_space, pieces}
use Rattle.sc_types.specs.Profiles.{profile_named}
use Rattle.sc_base.specs.Text.{is_word, is_plain_name, is_text}
use Rattle.sc_types.specs.declared.attribute.Attribute.{Attribute}
use Rattle.sc_types.specs.declared.attribute.Attribute.TheVariants as attribute
use Rattle.sc_types.specs.declared.attribute.Form.{Form}
use Rattle.sc_types.specs.declared.attribute.Form.TheVariants as form
use Rattle.sc_types.specs.declared.chart.Tag.{Tag}
use Rattle.sc_types.specs.declared.limits.TheConstants.{ID_LIMIT, EVENT_NAME_LIMIT, NAME_LIMIT, SEND_TARGET_LIMIT, TYPE_NAME_LIMIT}
use Rattle.sc_types.specs.declared.chart.Tag.TheVariants as tag

abbrev pub tag_text : Tag → List ℕ
tag_text tag.Scxml = codes "scxml"
tag_text tag.State = codes "state"
tag_text tag.Parallel = codes "parallel"
tag_text tag.Final = codes "final"
tag_text tag.History = codes "history"
tag_text tag.Initial = codes "initial"
tag_text tag.Transition = codes "transition"
tag_text tag.OnEntry = codes "onentry"
tag_text tag.OnExit = codes "onexit"
tag_text tag.Finalize = codes "finalize"
tag_text tag.DataModel = codes "datamodel"
tag_text tag.DataItem = codes "data"
tag_text tag.DoneData = codes "donedata"
tag_text tag.Content = codes "content"
tag_text tag.Param = codes "param"
tag_text tag.Invoke = codes "invoke"
tag_text tag.Raise = codes "raise"
tag_text tag.If = codes "if"
tag_text tag.ElseIf = codes "elseif"
tag_text tag.Else = codes "else"
tag_text tag.ForEach = codes "foreach"
tag_text tag.Log = codes "log"
tag_text tag.Assign = codes "assign"
tag_text tag.Send = codes "send"
tag_text tag.Cancel = codes "cancel"

abbrev pub tags : List Tag
tags = tag.Scxml ∷ tag.State ∷ tag.Parallel ∷ tag.Final ∷ tag.History ∷ tag.Initial ∷ tag.Transition ∷ tag.OnEntry
    ∷ tag.OnExit ∷ tag.Finalize ∷ tag.DataModel ∷ tag.DataItem ∷ tag.DoneData ∷ tag.Content ∷ tag.Param ∷ tag.Invoke
    ∷ tag.Raise ∷ tag.If ∷ tag.ElseIf ∷ tag.Else ∷ tag.ForEach ∷ tag.Log ∷ tag.Assign ∷ tag.Send ∷ tag.Cancel ∷ []

-- the element of this name
abbrev pub tag_of : List ℕ → Option Tag
tag_of text = find (λ t. bytes_eq (tag_text t) text) tags

-- the states; a history is none
abbrev pub is_state : Tag → Bool
is_state tag.State = true
is_state tag.Parallel = true
is_state tag.Final = true
is_state t = false

-- the elements that are numbered: states and histories
abbrev pub is_numbered : Tag → Bool
is_numbered tag.State = true
is_numbered tag.Parallel = true
is_numbered tag.Final = true
is_numbered tag.History = true
is_numbered t = false

abbrev pub attribute_text : Attribute → List ℕ
attribute_text attribute.Array = codes "array"
attribute_text attribute.AutoForward = codes "autoforward"
attribute_text attribute.Binding = codes "binding"
attribute_text attribute.Cond = codes "cond"
attribute_text attribute.DataModel = codes "datamodel"
attribute_text attribute.Delay = codes "delay"
attribute_text attribute.DelayExpr = codes "delayexpr"
attribute_text attribute.Event = codes "event"
attribute_text attribute.EventExpr = codes "eventexpr"
attribute_text attribute.Expr = codes "expr"
attribute_text attribute.Id = codes "id"
attribute_text attribute.IdLocation = codes "idlocation"
attribute_text attribute.Index = codes "index"
attribute_text attribute.Initial = codes "initial"
attribute_text attribute.Item = codes "item"
attribute_text attribute.Label = codes "label"
attribute_text attribute.Limit = codes "limit"
attribute_text attribute.Location = codes "location"
attribute_text attribute.Name = codes "name"
attribute_text attribute.NameList = codes "namelist"
attribute_text attribute.SendId = codes "sendid"
attribute_text attribute.SendIdExpr = codes "sendidexpr"
attribute_text attribute.Src = codes "src"
attribute_text attribute.Target = codes "target"
attribute_text attribute.Type = codes "type"
attribute_text attribute.Values = codes "values"
attribute_text attribute.Version = codes "version"
attribute_text attribute.Xmlns = codes "xmlns"

-- the attributes that an element may have, ascending by name
abbrev pub attributes : Tag → List Attribute
attributes tag.Scxml =
    attribute.Binding ∷ attribute.DataModel ∷ attribute.Initial ∷ attribute.Limit ∷ attribute.Name ∷ attribute.Values
    ∷ attribute.Version ∷ attribute.Xmlns ∷ []
attributes tag.State = attribute.Id ∷ attribute.Initial ∷ []
attributes tag.Parallel = attribute.Id ∷ []
attributes tag.Final = attribute.Id ∷ []
attributes tag.History = attribute.Id ∷ attribute.Type ∷ []
attributes tag.Transition = attribute.Cond ∷ attribute.Event ∷ attribute.Target ∷ attribute.Type ∷ []
attributes tag.DataItem = attribute.Expr ∷ attribute.Id ∷ []
attributes tag.Content = attribute.Expr ∷ []
attributes tag.Param = attribute.Expr ∷ attribute.Location ∷ attribute.Name ∷ []
attributes tag.Invoke =
    attribute.AutoForward ∷ attribute.Id ∷ attribute.IdLocation ∷ attribute.NameList ∷ attribute.Src ∷ attribute.Type
    ∷ []
attributes tag.Raise = attribute.Event ∷ []
attributes tag.If = attribute.Cond ∷ []
attributes tag.ElseIf = attribute.Cond ∷ []
attributes tag.ForEach = attribute.Array ∷ attribute.Index ∷ attribute.Item ∷ []
attributes tag.Log = attribute.Expr ∷ attribute.Label ∷ []
attributes tag.Assign = attribute.Expr ∷ attribute.Location ∷ []
attributes tag.Send =
    attribute.Delay ∷ attribute.DelayExpr ∷ attribute.Event ∷ attribute.EventExpr ∷ attribute.Id
    ∷ attribute.IdLocation ∷ attribute.NameList ∷ attribute.Target ∷ attribute.Type ∷ []
attributes tag.Cancel = attribute.SendId ∷ attribute.SendIdExpr ∷ []
attributes t = []

abbrev pub required : Tag → List Attribute
required tag.DataItem = attribute.Id ∷ []
required tag.Content = attribute.Expr ∷ []
required tag.Param = attribute.Name ∷ []
required tag.Invoke = attribute.Src ∷ []
required tag.Raise = attribute.Event ∷ []
required tag.If = attribute.Cond ∷ []
required tag.ElseIf = attribute.Cond ∷ []
required tag.ForEach = attribute.Array ∷ attribute.Item ∷ []
required tag.Assign = attribute.Expr ∷ attribute.Location ∷ []
required t = []

-- two attributes of which an element has exactly one
abbrev pub either : Tag → Option (Attribute × Attribute)
either tag.Param = Some (attribute.Expr, attribute.Location)
either tag.Cancel = Some (attribute.SendId, attribute.SendIdExpr)
either t = None

-- the form of an attribute, where it differs from element to element

abbrev pub event_form : Tag → Form
event_form tag.Transition = form.Descriptors
event_form t = form.EventName

abbrev pub id_form : Tag → Form
id_form tag.DataItem = form.PlainName
id_form t = form.Id

abbrev pub name_form : Tag → Form
name_form tag.Param = form.PlainName
name_form t = form.Label

abbrev pub target_form : Tag → Form
target_form tag.Transition = form.Ids
target_form t = form.SendTarget

abbrev pub type_form : Tag → Form
type_form tag.Transition = form.TransitionType
type_form tag.History = form.HistoryType
type_form t = form.TypeName

abbrev pub form_of : Tag → Attribute → Form
form_of t attribute.Array = form.Code
form_of t attribute.AutoForward = form.Truth
form_of t attribute.Binding = form.Binding
form_of t attribute.Cond = form.Code
form_of t attribute.DataModel = form.DataModel
form_of t attribute.Delay = form.Delay
form_of t attribute.DelayExpr = form.Code
form_of t attribute.Event = event_form t
form_of t attribute.EventExpr = form.Code
form_of t attribute.Expr = form.Code
form_of t attribute.Id = id_form t
form_of t attribute.IdLocation = form.PlainName
form_of t attribute.Index = form.PlainName
form_of t attribute.Initial = form.Ids
form_of t attribute.Item = form.PlainName
form_of t attribute.Label = form.Label
form_of t attribute.Limit = form.Limit
form_of t attribute.Location = form.PlainName
form_of t attribute.Name = name_form t
form_of t attribute.NameList = form.PlainNames
form_of t attribute.SendId = form.Id
form_of t attribute.SendIdExpr = form.Code
form_of t attribute.Src = form.ChartName
form_of t attribute.Target = target_form t
form_of t attribute.Type = type_form t
form_of t attribute.Values = form.Profile
form_of t attribute.Version = form.Version
form_of t attribute.Xmlns = form.NameSpace

-- what a text of each form may be

abbrev pub is_word_within : ℕ → List ℕ → Bool
is_word_within limit text = nat_le (length text) limit && is_word text

-- one or more pieces that pass the test, with white space between them and none round them
unfoldable pub are_pieces : (List ℕ → Bool) → List ℕ → Bool
are_pieces test text = nat_lt 0 (length text) && not (is_white_space (slice_index text 0))
    && not (is_white_space (slice_index text (length text - 1))) && list_all test (pieces text)

abbrev pub has_leading_zero : List ℕ → Bool
has_leading_zero text = nat_lt 1 (length text) && slice_index text 0 == 48

unfoldable pub is_limit : List ℕ → Bool
is_limit text = nat_lt 0 (length text) && nat_le (length text) 10 && are_digits text && not (has_leading_zero text)
    && nat_lt (digits_value 10 text) (2 ^ 32)

abbrev pub is_either : List ℕ → List ℕ → List ℕ → Bool
is_either a b text = bytes_eq text a || bytes_eq text b

-- expressions are left to the reading of expressions
abbrev pub has_form : Form → List ℕ → Bool
has_form form.Id text = is_word_within ID_LIMIT text
has_form form.Ids text = are_pieces (is_word_within ID_LIMIT) text
has_form form.PlainName text = is_plain_name text
has_form form.PlainNames text = are_pieces is_plain_name text
has_form form.EventName text = is_word_within EVENT_NAME_LIMIT text
has_form form.Descriptors text = are_pieces is_word text
has_form form.SendTarget text = nat_le (length text) SEND_TARGET_LIMIT
has_form form.TypeName text = nat_le (length text) TYPE_NAME_LIMIT
has_form form.TransitionType text = is_either (codes "external") (codes "internal") text
has_form form.HistoryType text = is_either (codes "shallow") (codes "deep") text
has_form form.DataModel text = is_either (codes "whole") (codes "null") text
has_form form.Binding text = is_either (codes "early") (codes "late") text
has_form form.Truth text = is_either (codes "false") (codes "true") text
has_form form.Limit text = is_limit text
has_form form.Profile text = is_some (profile_named text)
has_form form.Version text = bytes_eq text (codes "1.0")
has_form form.NameSpace text = bytes_eq text (codes "http://www.w3.org/2005/07/scxml")
has_form form.ChartName text = is_word_within NAME_LIMIT text
has_form form.Label text = is_text text
has_form form.Delay text = is_some (delay_of text)
has_form form.Code text = true

abbrev pub is_code : Form → Bool
is_code form.Code = true
is_code f = false
