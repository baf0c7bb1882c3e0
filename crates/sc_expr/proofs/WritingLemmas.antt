-- What is written of an expression, one layer at a time.
use Rattle.std.proofs.Common.{◌≡◌, ℕ, Bool, ℤ, List, ◌++◌, map, codes, append_assoc, sym, ap, ◌∙◌}
use Rattle.std.specs.Fmt.{signed_decimal}
use Rattle.sc_types.specs.Expressions.{field_text, expr_step, expr_text}
use Rattle.sc_types.specs.Tokens.{op_text}
use Rattle.sc_types.specs.Values.{text_literal, truth_text, joined}
use Rattle.sc_types.specs.declared.expr.EventField.{EventField}
use Rattle.sc_types.specs.declared.expr.Expr.{Expr}
use Rattle.sc_types.specs.declared.expr.Expr.TheFolds.{fold-roll-Expr, map-Expr}
use Rattle.sc_types.specs.declared.expr.Expr.TheOpen.{Expr-F}
use Rattle.sc_types.specs.declared.expr.Expr.TheViews.{roll-Expr}
use Rattle.sc_types.specs.declared.expr.Expr.TheVariants.{Bool as Truth, Int, Text, List as Listed, Datum, Field, Active, Not, Neg, Two, Item, Len, AsText, rolls-Bool, rolls-Int, rolls-Text, rolls-List, rolls-Datum, rolls-Field, rolls-Active, rolls-Not, rolls-Neg, rolls-Two, rolls-Item, rolls-Len, rolls-AsText}
use Rattle.sc_types.specs.declared.expr.Op.{Op}

layer : (x : Expr-F Expr) (e : Expr) → roll-Expr x ≡ e → expr_text e ≡ expr_step (map-Expr Expr (List ℕ) expr_text x)
unfolding expr_text
layer x e same = ap expr_text (sym same) ∙ fold-roll-Expr (List ℕ) expr_step x

-- a truth value is its word
pub expr_text-Bool : (b : Bool) → expr_text (Truth b) ≡ truth_text b
expr_text-Bool b = layer (Expr-F.Bool b) (Truth b) (rolls-Bool b)

-- a number is its decimal digits, with its sign
pub expr_text-Int : (n : ℤ) → expr_text (Int n) ≡ signed_decimal n
expr_text-Int n = layer (Expr-F.Int n) (Int n) (rolls-Int n)

-- a text stands in quotes
pub expr_text-Text : (text : List ℕ) → expr_text (Text text) ≡ text_literal text
expr_text-Text text = layer (Expr-F.Text text) (Text text) (rolls-Text text)

-- a list stands in brackets, with commas between its items
pub expr_text-List : (items : List Expr) → expr_text (Listed items) ≡ codes "[" ++ joined (map expr_text items) ++ codes "]"
expr_text-List items = layer (Expr-F.List items) (Listed items) (rolls-List items)

-- a datum is its name
pub expr_text-Datum : (name : List ℕ) → expr_text (Datum name) ≡ name
expr_text-Datum name = layer (Expr-F.Datum name) (Datum name) (rolls-Datum name)

-- a field of the event stands behind `_event.`
pub expr_text-Field : (f : EventField) → expr_text (Field f) ≡ codes "_event." ++ field_text f
expr_text-Field f = layer (Expr-F.Field f) (Field f) (rolls-Field f)

-- the state that is asked for stands in `In(` and `)`
pub expr_text-Active : (id : List ℕ) → expr_text (Active id) ≡ codes "In(" ++ text_literal id ++ codes ")"
expr_text-Active id = layer (Expr-F.Active id) (Active id) (rolls-Active id)

-- `!` and its operand stand in brackets
pub expr_text-Not : (a : Expr) → expr_text (Not a) ≡ codes "(!" ++ expr_text a ++ codes ")"
expr_text-Not a = layer (Expr-F.Not a) (Not a) (rolls-Not a)

-- `-` and its operand stand in brackets
pub expr_text-Neg : (a : Expr) → expr_text (Neg a) ≡ codes "(-" ++ expr_text a ++ codes ")"
expr_text-Neg a = layer (Expr-F.Neg a) (Neg a) (rolls-Neg a)

-- an operator and its operands stand in brackets
pub expr_text-Two : (op : Op) (a b : Expr) → expr_text (Two op a b) ≡ codes "(" ++ expr_text a ++ codes " " ++ op_text op ++ codes " " ++ expr_text b ++ codes ")"
expr_text-Two op a b = layer (Expr-F.Two op a b) (Two op a b) (rolls-Two op a b)

-- the place stands in square brackets behind the list
pub expr_text-Item : (a b : Expr) → expr_text (Item a b) ≡ expr_text a ++ codes "[" ++ expr_text b ++ codes "]"
expr_text-Item a b = layer (Expr-F.Item a b) (Item a b) (rolls-Item a b)

-- `len` has its operand in brackets
pub expr_text-Len : (a : Expr) → expr_text (Len a) ≡ codes "len(" ++ expr_text a ++ codes ")"
expr_text-Len a = layer (Expr-F.Len a) (Len a) (rolls-Len a)

-- `text` has its operand in brackets
pub expr_text-AsText : (a : Expr) → expr_text (AsText a) ≡ codes "text(" ++ expr_text a ++ codes ")"
expr_text-AsText a = layer (Expr-F.AsText a) (AsText a) (rolls-AsText a)

-- the text of each kind of expression
pub ruleset expr_layers = (append_assoc, expr_text-Bool, expr_text-Int, expr_text-Text, expr_text-List, expr_text-Datum, expr_text-Field, expr_text-Active, expr_text-Not, expr_text-Neg, expr_text-Two, expr_text-Item, expr_text-Len, expr_text-AsText)
