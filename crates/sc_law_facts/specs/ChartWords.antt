-- Words for charts, by which the facts are written: each gives a row of one element or one attribute, and `&` joins
-- rows. Attributes stand in the order of their names.
use Rattle.std.specs.Prelude.{ℕ, Bool, true, false, List, [], ◌∷◌, ◌++◌, ◌==◌, codes}
use Prim.Native.String.{String}
use Rattle.sc_types.specs.Attributes.{Members}
use Rattle.sc_types.specs.Elements.{attribute_text}
use Rattle.sc_types.specs.declared.attribute.Attribute.{Attribute}
use Rattle.sc_types.specs.declared.attribute.Attribute.TheVariants as attribute
use Rattle.sc_types.specs.declared.chart.Chart.{Chart}
use Rattle.sc_types.specs.declared.chart.Member.TheVariants.{Plain, Items, Code}
use Rattle.sc_types.specs.declared.chart.Node.{Node, roll-Node}
use Rattle.sc_types.specs.declared.chart.Tag.{Tag}
use Rattle.sc_types.specs.declared.chart.Tag.TheVariants as tag
use Rattle.sc_types.specs.declared.expr.Expr.{Expr}

infixr 5 ◌&◌
abbrev pub ◌&◌ : {A : Type 0} → List A → List A → List A
xs & ys = xs ++ ys

-- the words of a text, which single spaces part

abbrev put_code : Bool → ℕ → List (List ℕ) → List (List ℕ)
put_code true c ws = [] ∷ ws
put_code false c [] = (c ∷ []) ∷ []
put_code false c (w ∷ ws) = (c ∷ w) ∷ ws

abbrev words_in : List ℕ → List (List ℕ)
words_in [] = [] ∷ []
words_in (c ∷ cs) = put_code (c == 32) c (words_in cs)

abbrev pub words : String → List (List ℕ)
words text = words_in (codes text)

-- attributes

abbrev pub plain : Attribute → String → Members
plain a text = (attribute_text a, Plain (codes text)) ∷ []

abbrev pub items : Attribute → String → Members
items a text = (attribute_text a, Items (words text)) ∷ []

abbrev pub code : Attribute → Expr → Members
code a e = (attribute_text a, Code e) ∷ []

abbrev pub id : String → Members
id = plain attribute.Id

abbrev pub event : String → Members
event = items attribute.Event

abbrev pub target : String → Members
target = items attribute.Target

abbrev pub cond : Expr → Members
cond = code attribute.Cond

abbrev pub of_type : String → Members
of_type = plain attribute.Type

abbrev pub limit : String → Members
limit = plain attribute.Limit

abbrev pub src : String → Members
src = plain attribute.Src

-- of `<send>` and `<raise>`, where each is one name and no list
abbrev pub event_name : String → Members
event_name = plain attribute.Event

abbrev pub send_to : String → Members
send_to = plain attribute.Target

abbrev pub initially : String → Members
initially = items attribute.Initial

-- elements

abbrev pub element : Tag → Members → List Node → List Node
element t attributes kids = roll-Node (record { tag = t; members = attributes; kids = kids }) ∷ []

abbrev pub chart_with : Members → List Node → Chart
chart_with attributes kids = record {
  root = roll-Node (record { tag = tag.Scxml; members = attributes; kids = kids });
}

abbrev pub chart : List Node → Chart
chart = chart_with []

abbrev pub state : String → List Node → List Node
state name = element tag.State (id name)

-- a state whose `initial` names states below
abbrev pub state_from : String → String → List Node → List Node
state_from name targets = element tag.State (id name & initially targets)

abbrev pub atomic : String → List Node
atomic name = state name []

abbrev pub parallel : String → List Node → List Node
parallel name = element tag.Parallel (id name)

abbrev pub final : String → List Node → List Node
final name = element tag.Final (id name)

abbrev pub transition : Members → List Node → List Node
transition = element tag.Transition

-- a transition with no content, and one with no target
abbrev pub on : String → String → List Node
on events targets = transition (event events & target targets) []

abbrev pub on_do : String → List Node → List Node
on_do events = transition (event events)

-- a history of children, and one of all below, with its default
abbrev pub history : String → String → List Node → List Node
history name default content = element tag.History (id name) (transition (target default) content)

abbrev pub deep_history : String → String → List Node
deep_history name default = element tag.History (id name & of_type "deep") (transition (target default) [])

abbrev pub initial : String → List Node → List Node
initial targets content = element tag.Initial [] (transition (target targets) content)

abbrev pub onentry : List Node → List Node
onentry = element tag.OnEntry []

abbrev pub onexit : List Node → List Node
onexit = element tag.OnExit []

abbrev pub datamodel : List Node → List Node
datamodel = element tag.DataModel []

-- `<data>`, with an initial value and with none
abbrev pub var : String → Expr → List Node
var name e = element tag.DataItem (code attribute.Expr e & id name) []

abbrev pub unset_var : String → List Node
unset_var name = element tag.DataItem (id name) []

abbrev pub donedata : List Node → List Node
donedata = element tag.DoneData []

abbrev pub content : Expr → List Node
content e = element tag.Content (code attribute.Expr e) []

abbrev pub param : String → Expr → List Node
param name e = element tag.Param (code attribute.Expr e & plain attribute.Name name) []

-- executable content

abbrev pub log : Expr → List Node
log e = element tag.Log (code attribute.Expr e) []

-- a log line that has a label and no `expr`
abbrev pub mark : String → List Node
mark label = element tag.Log (plain attribute.Label label) []

abbrev pub log_as : String → Expr → List Node
log_as label e = element tag.Log (code attribute.Expr e & plain attribute.Label label) []

abbrev pub raise : String → List Node
raise name = element tag.Raise (event_name name) []

abbrev pub assign : String → Expr → List Node
assign name e = element tag.Assign (code attribute.Expr e & plain attribute.Location name) []

abbrev pub foreach : Members → List Node → List Node
foreach = element tag.ForEach

abbrev pub send : Members → List Node → List Node
send = element tag.Send

abbrev pub cancel : String → List Node
cancel sendid = element tag.Cancel (plain attribute.SendId sendid) []

abbrev pub invoke : Members → List Node → List Node
invoke = element tag.Invoke

abbrev pub finalize : List Node → List Node
finalize = element tag.Finalize []

-- `<if>`, and what parts its branches
abbrev pub when : Expr → List Node → List Node
when e = element tag.If (cond e)

abbrev pub or_when : Expr → List Node
or_when e = element tag.ElseIf (cond e) []

abbrev pub otherwise : List Node
otherwise = element tag.Else [] []
