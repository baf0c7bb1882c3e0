-- How the reader descends: each level of the grammar as a function from the tokens that are ahead. `expr_of` is defined
-- by it, and `read_expr` promises that this is the grammar's reading, so nobody has to believe it. This host's own
-- rule.
use Rattle.std.specs.Prelude.{ℕ, zero, suc, ◌+◌, ◌-◌, ◌==◌, ◌&&◌, Bool, true, false, nat_le, nat_lt, if◌then◌else◌, Option, Some, None, option_map, option_and_then, List, [], ◌∷◌, length, find, codes}
use Rattle.std.specs.Str.{bytes_eq}
use Rattle.sc_types.specs.Expressions.{depth, looseness, repeats, field_text}
use Rattle.sc_base.specs.Text.{is_plain_name}
use Rattle.sc_types.specs.Tokens.{mark_text}
use Rattle.sc_types.specs.declared.expr.EventField.{EventField}
use Rattle.sc_types.specs.declared.expr.EventField.TheVariants as field
use Rattle.sc_types.specs.declared.expr.Expr.{Expr}
use Rattle.sc_types.specs.declared.expr.Expr.TheVariants.{Bool as Truth, Int, Text, List as Listed, Datum, Field, Active, Not, Neg, Two, Item, Len, AsText}
use Rattle.sc_types.specs.declared.expr.Op.{Op}
use Rattle.sc_types.specs.declared.expr.Op.TheVariants.{Sub}
use Rattle.sc_types.specs.declared.token.Mark.{Mark}
use Rattle.sc_types.specs.declared.token.Mark.TheVariants.{Not as Bang, Open, Close, OpenSquare, CloseSquare, Comma, Dot}
use Rattle.sc_types.specs.declared.token.Token.{Token}
use Rattle.sc_types.specs.declared.token.Token.TheVariants.{Word, Number, Text as Quoted, Operator, Mark as Sign}
use Rattle.sc_expr.specs.declared.sub.Prefix.{Prefix}
use Rattle.sc_expr.specs.declared.sub.Prefix.TheVariants as prefix
use Rattle.sc_types.specs.declared.limits.TheConstants.{EXPRESSION_LEVEL_LIMIT}

-- what is read from the front, and the tokens behind it
abbrev pub Parse : Type 0 → Type 0
Parse A = List Token → Option (A × List Token)

-- the next token before those behind it
abbrev pub ahead : Option Token → List Token → List Token
ahead None ts = []
ahead (Some t) ts = t ∷ ts

-- an expression that is not too deep
abbrev pub within : Expr → Option Expr
within e = if nat_le (depth e) EXPRESSION_LEVEL_LIMIT then Some e else None

abbrev pub with_rest : List Token → Expr → Expr × List Token
with_rest rest e = (e, rest)

-- what is made of the expression that was read
abbrev pub made : (Expr → Expr) → Expr × List Token → Option (Expr × List Token)
made f r = option_map (with_rest r.1) (within (f r.0))

abbrev pub after_open : List Token → Option (List Token)
after_open (Sign Open ∷ ts) = Some ts
after_open ts = None

abbrev pub after_close : List Token → Option (List Token)
after_close (Sign Close ∷ ts) = Some ts
after_close ts = None

abbrev pub after_close_square : List Token → Option (List Token)
after_close_square (Sign CloseSquare ∷ ts) = Some ts
after_close_square ts = None

abbrev pub after_dot : List Token → Option (List Token)
after_dot (Sign Dot ∷ ts) = Some ts
after_dot ts = None

abbrev pub closed : Expr × List Token → Option (Expr × List Token)
closed r = option_map (λ rest. (r.0, rest)) (after_close r.1)

abbrev pub bracketed : Parse Expr → Parse Expr
bracketed inner ts = option_and_then (λ us. option_and_then closed (inner us)) (after_open ts)

-- operators

-- the operator that comes next, where its looseness lies between these, both included
abbrev pub operator_between : ℕ → ℕ → List Token → Option Op
operator_between closest loosest (Operator op ∷ ts) =
    if nat_le closest (looseness op) && nat_le (looseness op) loosest then Some op else None
operator_between closest loosest ts = None

-- how close the operators may bind that come behind the operands of this one
abbrev pub closest_behind : Op → ℕ
closest_behind op = if repeats op then looseness op else looseness op + 1

abbrev pub prefix_at : List Token → Option Prefix
prefix_at (Sign Bang ∷ ts) = Some prefix.Not
prefix_at (Operator Sub ∷ ts) = Some prefix.Minus
prefix_at ts = None

abbrev pub prefix_of : Prefix → Expr → Expr
prefix_of prefix.Not = Not
prefix_of prefix.Minus = Neg

-- the first prefix is the outermost
abbrev pub all_prefixed : List Prefix → Option (Expr × List Token) → Option (Expr × List Token)
all_prefixed [] r = r
all_prefixed (p ∷ ps) r = option_and_then (made (prefix_of p)) (all_prefixed ps r)

-- whether a mark comes next
abbrev pub is_at : Mark → List Token → Bool
is_at m (Sign n ∷ ts) = bytes_eq (mark_text n) (mark_text m)
is_at m ts = false

-- an operand, and each operator of this looseness with its operand behind it
unfoldable pub chained : Parse Expr → ℕ → ℕ → Expr → Parse Expr
chained operand bound zero a ts = None
chained operand bound (suc n) a (Operator op ∷ ts) =
    if looseness op == bound
    then option_and_then (λ (r : Expr × List Token).
    option_and_then (λ e. if repeats op then chained operand bound n e r.1 else Some (e, r.1)) (within (Two op a r.0)))
    (operand ts)
    else Some (a, Operator op ∷ ts)
chained operand bound (suc n) a ts = Some (a, ts)

-- each operator makes the expression deeper, so that there are fewer than 257
abbrev pub chained_from : Parse Expr → ℕ → Expr → Parse Expr
chained_from operand bound a ts = chained operand bound (257 - depth a) a ts

unfoldable pub prefixed : Parse Expr → Parse Expr
prefixed operand [] = operand []
prefixed operand (Sign Bang ∷ ts) = option_and_then (made Not) (prefixed operand ts)
prefixed operand (Operator Sub ∷ ts) = option_and_then (made Neg) (prefixed operand ts)
prefixed operand (t ∷ ts) = operand (t ∷ ts)

-- a list, and each place in brackets behind it
unfoldable pub indexed : Parse Expr → ℕ → Expr → Parse Expr
indexed inner zero a ts = None
indexed inner (suc n) a (Sign OpenSquare ∷ ts) =
    option_and_then (λ (r : Expr × List Token).
    option_and_then (λ rest. option_and_then (λ e. indexed inner n e rest) (within (Item a r.0)))
    (after_close_square r.1))
    (inner ts)
indexed inner (suc n) a ts = Some (a, ts)

abbrev pub indexed_from : Parse Expr → Expr → Parse Expr
indexed_from inner a ts = indexed inner (257 - depth a) a ts

-- leaves

abbrev pub one_word_fields : List EventField
one_word_fields = field.Name ∷ field.Kind ∷ field.SendId ∷ field.Origin ∷ field.OriginType ∷ field.InvokeId ∷ []

abbrev pub field_of : List ℕ → Option EventField
field_of name = find (λ f. bytes_eq (field_text f) name) one_word_fields

abbrev pub word : Parse (List ℕ)
word (Word w ∷ ts) = Some (w, ts)
word ts = None

-- behind `_event.data.`
abbrev pub payload_of : Parse Expr
payload_of ts =
    option_and_then
    (λ (r : List ℕ × List Token). if is_plain_name r.0 then Some (Field (field.PayloadOf r.0), r.1) else None) (word ts)

-- behind `_event.data`
abbrev pub payload : Parse Expr
payload (Sign Dot ∷ ts) = payload_of ts
payload ts = Some (Field field.Payload, ts)

-- behind `_event.` and a word
abbrev pub field_behind : List ℕ × List Token → Option (Expr × List Token)
field_behind r = if bytes_eq r.0 (codes "data") then payload r.1 else option_map (λ f. (Field f, r.1)) (field_of r.0)

-- behind `_event`
abbrev pub event_field : Parse Expr
event_field ts = option_and_then (λ us. option_and_then field_behind (word us)) (after_dot ts)

-- the state that is asked for
abbrev pub state_id : Parse (List ℕ)
state_id (Quoted id ∷ ts) = Some (id, ts)
state_id (Word id ∷ ts) = if is_plain_name id then Some (id, ts) else None
state_id ts = None

abbrev pub identified : List ℕ × List Token → Option (Expr × List Token)
identified r = option_map (λ rest. (Active r.0, rest)) (after_close r.1)

-- behind `In`
abbrev pub active : Bool → Parse Expr
active has_room ts =
    if has_room then option_and_then (λ us. option_and_then identified (state_id us)) (after_open ts) else None

abbrev pub named : Bool → Parse Expr → List ℕ → Parse Expr
named has_room inner name ts =
    if bytes_eq name (codes "true") then Some (Truth true, ts)
    else if bytes_eq name (codes "false") then Some (Truth false, ts)
    else if bytes_eq name (codes "In") then active has_room ts
    else if bytes_eq name (codes "len") then option_and_then (made Len) (bracketed inner ts)
    else if bytes_eq name (codes "text") then option_and_then (made AsText) (bracketed inner ts)
    else if bytes_eq name (codes "_event") then event_field ts
    else if is_plain_name name then Some (Datum name, ts)
    else None

-- lists

abbrev pub front : Expr → Option (List Expr × List Token) → Option (List Expr × List Token)
front e r = option_map (λ (r : List Expr × List Token). (e ∷ r.0, r.1)) r

-- what stands behind an item
abbrev pub item_end : Parse (List Expr) → Expr → Parse (List Expr)
item_end later e (Sign Comma ∷ ts) = front e (later ts)
item_end later e (Sign CloseSquare ∷ ts) = Some (e ∷ [], ts)
item_end later e ts = None

-- neither a comma nor the bracket that closes the list comes next
abbrev pub is_unended : List Token → Bool
is_unended (Sign Comma ∷ ts) = false
is_unended (Sign CloseSquare ∷ ts) = false
is_unended ts = true

-- one item or more, and the bracket behind them
unfoldable pub items : Parse Expr → ℕ → Parse (List Expr)
items inner zero ts = None
items inner (suc n) ts = option_and_then (λ (r : Expr × List Token). item_end (items inner n) r.0 r.1) (inner ts)

abbrev pub list_of : Bool → Parse Expr → Parse Expr
list_of has_room inner (Sign CloseSquare ∷ ts) = if has_room then Some (Listed [], ts) else None
list_of has_room inner ts =
    if has_room
    then option_and_then (λ (r : List Expr × List Token). option_map (with_rest r.1) (within (Listed r.0)))
    (items inner (length ts) ts)
    else None

abbrev pub primary : Bool → Parse Expr → Parse Expr
primary has_room inner [] = None
primary has_room inner (Word name ∷ ts) = named has_room inner name ts
primary has_room inner (Number n ∷ ts) = Some (Int n, ts)
primary has_room inner (Quoted text ∷ ts) = Some (Text text, ts)
primary has_room inner (Sign Open ∷ ts) = option_and_then closed (inner ts)
primary has_room inner (Sign OpenSquare ∷ ts) = list_of has_room inner ts
primary has_room inner ts = None

abbrev pub postfix : Bool → Parse Expr → Parse Expr
postfix has_room inner ts =
    option_and_then (λ (r : Expr × List Token). indexed_from inner r.0 r.1) (primary has_room inner ts)

-- an expression whose operators outside brackets are at most this loose
unfoldable pub loose : Bool → Parse Expr → ℕ → Parse Expr
loose has_room inner zero ts = postfix has_room inner ts
loose has_room inner (suc zero) ts = prefixed (postfix has_room inner) ts
loose has_room inner (suc (suc k)) ts =
    option_and_then (λ (r : Expr × List Token). chained_from (loose has_room inner (suc k)) (suc (suc k)) r.0 r.1)
    (loose has_room inner (suc k) ts)

-- what may stand in brackets, with so many that may yet be opened
unfoldable pub inside : ℕ → Parse Expr
inside zero ts = None
inside (suc room) ts = loose (nat_lt 0 room) (inside room) 6 ts

abbrev pub loose_at : ℕ → ℕ → Parse Expr
loose_at room bound ts = loose (nat_lt 0 room) (inside room) bound ts

-- an expression, and nothing behind it
abbrev pub whole : Expr × List Token → Option Expr
whole (e, []) = Some e
whole (e, t ∷ ts) = None

abbrev pub expression_of : List Token → Option Expr
expression_of ts = option_and_then whole (loose_at EXPRESSION_LEVEL_LIMIT 6 ts)
