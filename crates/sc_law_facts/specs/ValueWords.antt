-- Words for values and expressions, by which the facts are written.
use Rattle.std.specs.Prelude.{List, pos, neg_ℤ, Bool as Truth, codes, ℕ}
use Prim.Native.String.{String}
use Rattle.sc_types.specs.declared.expr.EventField.{EventField}
use Rattle.sc_types.specs.declared.expr.EventField.TheVariants as field
use Rattle.sc_types.specs.declared.expr.Expr.{Expr}
use Rattle.sc_types.specs.declared.expr.Expr.TheVariants as expr
use Rattle.sc_types.specs.declared.expr.Op.TheVariants as op
use Rattle.sc_types.specs.declared.value.Value.{Value}
use Rattle.sc_types.specs.declared.value.Value.TheVariants as value

-- values

abbrev pub number : ℕ → Value
number n = value.Int (pos n)

abbrev pub negative : ℕ → Value
negative n = value.Int (neg_ℤ (pos n))

abbrev pub string : String → Value
string text = value.Text (codes text)

abbrev pub boolean : Truth → Value
boolean b = value.Bool b

abbrev pub list : List Value → Value
list vs = value.List vs

-- expressions

abbrev pub int : ℕ → Expr
int n = expr.Int (pos n)

abbrev pub text : String → Expr
text written = expr.Text (codes written)

abbrev pub bool : Truth → Expr
bool b = expr.Bool b

abbrev pub row : List Expr → Expr
row es = expr.List es

abbrev pub datum : String → Expr
datum name = expr.Datum (codes name)

-- `In('id')`
abbrev pub active : String → Expr
active id = expr.Active (codes id)

-- `_event.name`, `_event.type` and so on
abbrev pub event_field : EventField → Expr
event_field f = expr.Field f

-- `_event.data`
abbrev pub event_data : Expr
event_data = expr.Field field.Payload

-- `_event.data.NAME`
abbrev pub event_data_of : String → Expr
event_data_of name = expr.Field (field.PayloadOf (codes name))

abbrev pub not : Expr → Expr
not e = expr.Not e

abbrev pub minus : Expr → Expr
minus e = expr.Neg e

abbrev pub len : Expr → Expr
len e = expr.Len e

abbrev pub text_of : Expr → Expr
text_of e = expr.AsText e

-- `list[place]`
abbrev pub item : Expr → Expr → Expr
item es place = expr.Item es place

infixl 30 ◌or◌
abbrev pub ◌or◌ : Expr → Expr → Expr
a or b = expr.Two op.Or a b

infixl 31 ◌and◌
abbrev pub ◌and◌ : Expr → Expr → Expr
a and b = expr.Two op.And a b

infixl 32 ◌eq◌
abbrev pub ◌eq◌ : Expr → Expr → Expr
a eq b = expr.Two op.Eq a b

infixl 32 ◌ne◌
abbrev pub ◌ne◌ : Expr → Expr → Expr
a ne b = expr.Two op.Ne a b

infixl 33 ◌lt◌
abbrev pub ◌lt◌ : Expr → Expr → Expr
a lt b = expr.Two op.Lt a b

infixl 33 ◌le◌
abbrev pub ◌le◌ : Expr → Expr → Expr
a le b = expr.Two op.Le a b

infixl 33 ◌gt◌
abbrev pub ◌gt◌ : Expr → Expr → Expr
a gt b = expr.Two op.Gt a b

infixl 33 ◌ge◌
abbrev pub ◌ge◌ : Expr → Expr → Expr
a ge b = expr.Two op.Ge a b

infixl 34 ◌plus◌
abbrev pub ◌plus◌ : Expr → Expr → Expr
a plus b = expr.Two op.Add a b

infixl 34 ◌less◌
abbrev pub ◌less◌ : Expr → Expr → Expr
a less b = expr.Two op.Sub a b

infixl 35 ◌times◌
abbrev pub ◌times◌ : Expr → Expr → Expr
a times b = expr.Two op.Mul a b

infixl 35 ◌over◌
abbrev pub ◌over◌ : Expr → Expr → Expr
a over b = expr.Two op.Div a b

infixl 35 ◌rem◌
abbrev pub ◌rem◌ : Expr → Expr → Expr
a rem b = expr.Two op.Rem a b
