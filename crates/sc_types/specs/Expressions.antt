-- Expressions and the texts that spell them. SCXML 5.9 leaves the language to the data model: this host's own rule.
use Rattle.std.specs.Prelude.{ℕ, suc, ◌-◌, ◌==◌, ◌≤◌, if◌then◌else◌, max, Bool, true, false, not, ◌&&◌, List, [], ◌∷◌, ◌++◌, ℤ, pos, negsuc, codes, IsTrue, Option, MatchOption}
use Rattle.std.specs.List.{list_all}
use Rattle.std.specs.Fmt.{signed_decimal}
use Rattle.std.specs.Str.{bytes_eq}
use Rattle.sc_base.specs.Text.{is_plain_name, is_text_within, is_int}
use Rattle.sc_types.specs.Profiles.{text_limit}
use Rattle.sc_types.specs.Tokens.{op_text, tokens}
use Rattle.sc_types.specs.Values.{text_literal, truth_text, joined}
use Rattle.sc_types.specs.declared.expr.EventField.{EventField}
use Rattle.sc_types.specs.declared.expr.EventField.TheVariants as field
use Rattle.sc_types.specs.declared.expr.Expr.{Expr}
use Rattle.sc_types.specs.declared.expr.Expr.TheFolds.{fold-Expr}
use Rattle.sc_types.specs.declared.expr.Expr.TheOpen.{Expr-F}
use Rattle.sc_types.specs.declared.expr.Expr.TheVariants.{Bool as Truth, Int, Text, List as Listed, Datum, Field, Active, Not, Neg, Two, Item, Len, AsText}
use Rattle.sc_types.specs.declared.expr.Op.{Op}
use Rattle.sc_types.specs.declared.expr.Op.TheVariants.{Or, And, Eq, Ne, Lt, Le, Gt, Ge, Add, Sub, Mul, Div, Rem}
use Rattle.sc_types.specs.declared.profile.Profile.{Profile}
use Rattle.sc_types.specs.declared.token.Mark.TheVariants.{Not as Bang, Open, Close, OpenSquare, CloseSquare, Comma, Dot}
use Rattle.sc_types.specs.declared.token.Token.{Token}
use Rattle.sc_types.specs.declared.token.Token.TheVariants.{Word, Number, Text as Quoted, Operator, Mark as Sign}
use Rattle.sc_types.specs.declared.limits.TheConstants.{EXPRESSION_LEVEL_LIMIT}

-- how loosely an operator binds: 2 binds closest
abbrev pub looseness : Op → ℕ
looseness Or = 6
looseness And = 5
looseness Eq = 4
looseness Ne = 4
looseness Lt = 4
looseness Le = 4
looseness Gt = 4
looseness Ge = 4
looseness Add = 3
looseness Sub = 3
looseness Mul = 2
looseness Div = 2
looseness Rem = 2

-- comparisons stand alone; the others group to the left
abbrev pub repeats : Op → Bool
repeats op = not (looseness op == 4)

abbrev pub deepest : List ℕ → ℕ
deepest [] = 0
deepest (n ∷ ns) = max n (deepest ns)

-- the depth of an expression, a leaf's being 1, from the depths of its parts
abbrev pub depth_step : Expr-F ℕ → ℕ
depth_step (Expr-F.Bool b) = 1
depth_step (Expr-F.Int n) = 1
depth_step (Expr-F.Text text) = 1
depth_step (Expr-F.List items) = suc (deepest items)
depth_step (Expr-F.Datum name) = 1
depth_step (Expr-F.Field f) = 1
depth_step (Expr-F.Active id) = 1
depth_step (Expr-F.Not a) = suc a
depth_step (Expr-F.Neg a) = suc a
depth_step (Expr-F.Two op a b) = suc (max a b)
depth_step (Expr-F.Item a b) = suc (max a b)
depth_step (Expr-F.Len a) = suc a
depth_step (Expr-F.AsText a) = suc a

unfoldable pub depth : Expr → ℕ
depth e = fold-Expr ℕ depth_step e

-- a field of an event, behind `_event.`
abbrev pub field_text : EventField → List ℕ
field_text field.Name = codes "name"
field_text field.Kind = codes "type"
field_text field.SendId = codes "sendid"
field_text field.Origin = codes "origin"
field_text field.OriginType = codes "origintype"
field_text field.InvokeId = codes "invokeid"
field_text field.Payload = codes "data"
field_text (field.PayloadOf name) = codes "data." ++ name

abbrev pub is_one_word : EventField → Bool
is_one_word (field.PayloadOf name) = false
is_one_word f = true

-- a datum has a plain name other than `_event`
abbrev pub is_datum : List ℕ → Bool
is_datum name = is_plain_name name && not (bytes_eq name (codes "_event"))

-- limits

abbrev pub has_plain_names : EventField → Bool
has_plain_names (field.PayloadOf name) = is_plain_name name
has_plain_names f = true

-- a sign is no part of a number
abbrev pub is_natural : ℤ → Bool
is_natural (pos n) = is_int (pos n)
is_natural (negsuc n) = false

abbrev pub fits_step : Profile → Expr-F Bool → Bool
fits_step profile (Expr-F.Bool b) = true
fits_step profile (Expr-F.Int n) = is_natural n
fits_step profile (Expr-F.Text text) = is_text_within (text_limit profile) text
fits_step profile (Expr-F.List items) = list_all (λ b. b) items
fits_step profile (Expr-F.Datum name) = is_datum name
fits_step profile (Expr-F.Field f) = has_plain_names f
fits_step profile (Expr-F.Active id) = is_text_within (text_limit profile) id
fits_step profile (Expr-F.Not a) = a
fits_step profile (Expr-F.Neg a) = a
fits_step profile (Expr-F.Two op a b) = a && b
fits_step profile (Expr-F.Item a b) = a && b
fits_step profile (Expr-F.Len a) = a
fits_step profile (Expr-F.AsText a) = a

-- whether the leaves are what a text can spell in a profile
unfoldable pub has_fit_leaves : Profile → Expr → Bool
has_fit_leaves profile e = fold-Expr Bool (fits_step profile) e

pub record IsExpr (profile : Profile) (e : Expr) : Type 0 where
  pub shallow : depth e ≤ EXPRESSION_LEVEL_LIMIT
  pub leaves : IsTrue (has_fit_leaves profile e)

-- writing

abbrev pub expr_step : Expr-F (List ℕ) → List ℕ
expr_step (Expr-F.Bool b) = truth_text b
expr_step (Expr-F.Int n) = signed_decimal n
expr_step (Expr-F.Text text) = text_literal text
expr_step (Expr-F.List items) = codes "[" ++ joined items ++ codes "]"
expr_step (Expr-F.Datum name) = name
expr_step (Expr-F.Field f) = codes "_event." ++ field_text f
expr_step (Expr-F.Active id) = codes "In(" ++ text_literal id ++ codes ")"
expr_step (Expr-F.Not a) = codes "(!" ++ a ++ codes ")"
expr_step (Expr-F.Neg a) = codes "(-" ++ a ++ codes ")"
expr_step (Expr-F.Two op a b) = codes "(" ++ a ++ codes " " ++ op_text op ++ codes " " ++ b ++ codes ")"
expr_step (Expr-F.Item a b) = a ++ codes "[" ++ b ++ codes "]"
expr_step (Expr-F.Len a) = codes "len(" ++ a ++ codes ")"
expr_step (Expr-F.AsText a) = codes "text(" ++ a ++ codes ")"

-- the text that an expression is printed as
unfoldable pub expr_text : Expr → List ℕ
expr_text e = fold-Expr (List ℕ) expr_step e

-- reading

-- what may stand left of an operator: more of its kind, where it repeats
abbrev pub left_of : Op → ℕ
left_of op = if repeats op then looseness op else looseness op - 1

mutual
  -- Tokens that spell an expression, with so many brackets that may yet be opened. The second number says how
  -- loosely the expression may be bound: 0 for what an index may follow, 1 for what `!` or `-` may precede, and
  -- else the looseness of its outermost operator.
  pub data Spells : ℕ → ℕ → Expr → List Token → Type 0 where
    looser : {room bound : ℕ} {e : Expr} {ts : List Token} → Spells room bound e ts → Spells room (suc bound) e ts
    two : (op : Op) {room : ℕ} {a b : Expr} {ts us : List Token}
        → Spells room (left_of op) a ts → Spells room (looseness op - 1) b us
        → Spells room (looseness op) (Two op a b) (ts ++ Operator op ∷ us)
    negated : {room : ℕ} {a : Expr} {ts : List Token} → Spells room 1 a ts → Spells room 1 (Not a) (Sign Bang ∷ ts)
    minus : {room : ℕ} {a : Expr} {ts : List Token} → Spells room 1 a ts → Spells room 1 (Neg a) (Operator Sub ∷ ts)
    item : {room : ℕ} {a b : Expr} {ts us : List Token} → Spells (suc room) 0 a ts → Spells room 6 b us
        → Spells (suc room) 0 (Item a b) (ts ++ Sign OpenSquare ∷ us ++ Sign CloseSquare ∷ [])
    brackets : {room : ℕ} {e : Expr} {ts : List Token} → Spells room 6 e ts
        → Spells (suc room) 0 e (Sign Open ∷ ts ++ Sign Close ∷ [])
    no_items : {room : ℕ} → Spells (suc room) 0 (Listed []) (Sign OpenSquare ∷ Sign CloseSquare ∷ [])
    listed : {room : ℕ} {es : List Expr} {ts : List Token} → SpellsItems room es ts
        → Spells (suc room) 0 (Listed es) (Sign OpenSquare ∷ ts ++ Sign CloseSquare ∷ [])
    len : {room : ℕ} {a : Expr} {ts : List Token} → Spells room 6 a ts
        → Spells (suc room) 0 (Len a) (Word (codes "len") ∷ Sign Open ∷ ts ++ Sign Close ∷ [])
    as_text : {room : ℕ} {a : Expr} {ts : List Token} → Spells room 6 a ts
        → Spells (suc room) 0 (AsText a) (Word (codes "text") ∷ Sign Open ∷ ts ++ Sign Close ∷ [])
    active : {room : ℕ} {id : List ℕ}
        → Spells (suc room) 0 (Active id) (Word (codes "In") ∷ Sign Open ∷ Quoted id ∷ Sign Close ∷ [])
    active_name : {room : ℕ} {id : List ℕ} → IsTrue (is_plain_name id)
        → Spells (suc room) 0 (Active id) (Word (codes "In") ∷ Sign Open ∷ Word id ∷ Sign Close ∷ [])
    yes_word : {room : ℕ} → Spells room 0 (Truth true) (Word (codes "true") ∷ [])
    no_word : {room : ℕ} → Spells room 0 (Truth false) (Word (codes "false") ∷ [])
    number : {room : ℕ} {n : ℤ} → Spells room 0 (Int n) (Number n ∷ [])
    literal : {room : ℕ} {text : List ℕ} → Spells room 0 (Text text) (Quoted text ∷ [])
    datum : {room : ℕ} {name : List ℕ} → IsTrue (is_datum name) → Spells room 0 (Datum name) (Word name ∷ [])
    one_word : {room : ℕ} (f : EventField) → IsTrue (is_one_word f)
        → Spells room 0 (Field f) (Word (codes "_event") ∷ Sign Dot ∷ Word (field_text f) ∷ [])
    payload_of : {room : ℕ} {name : List ℕ} → IsTrue (is_plain_name name)
        → Spells room 0 (Field (field.PayloadOf name))
        (Word (codes "_event") ∷ Sign Dot ∷ Word (codes "data") ∷ Sign Dot ∷ Word name ∷ [])

  -- one expression or more, with commas between
  pub data SpellsItems : ℕ → List Expr → List Token → Type 0 where
    last : {room : ℕ} {e : Expr} {ts : List Token} → Spells room 6 e ts → SpellsItems room (e ∷ []) ts
    more : {room : ℕ} {e : Expr} {es : List Expr} {ts us : List Token} → Spells room 6 e ts → SpellsItems room es us
        → SpellsItems room (e ∷ es) (ts ++ Sign Comma ∷ us)

-- the text of an expression in a profile: at most 256 levels deep, with at most 256 brackets open at any place
pub record IsExpression (profile : Profile) (text : List ℕ) (e : Expr) : Type 0 where
  pub spelled : Spells EXPRESSION_LEVEL_LIMIT 6 e (tokens profile false text)
  pub shallow : depth e ≤ EXPRESSION_LEVEL_LIMIT

-- how the texts of expressions are read in each profile: each gives the one expression that it spells, and nothing where
-- it spells none
abbrev pub IsReading : (Profile → List ℕ → Option Expr) → Type 0
IsReading code_of =
    (profile : Profile) (text : List ℕ)
    → MatchOption (code_of profile text) ((e : Expr) → ¬ IsExpression profile text e) (IsExpression profile text)
