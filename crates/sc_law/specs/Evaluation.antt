-- The value of an expression. SCXML 5.9 leaves expressions to the data model: this host's own rule.
use Rattle.std.specs.Prelude.{Bool, Err, List, None, Ok, Option, Result, Some, [], codes, false, find, if◌then◌else◌, int_div, int_lt, int_rem, length, nat_abs, nat_le, neg_ℤ, negsuc, not, ok_or, option_and_then, option_map, pos, reverse, slice_get, true, ℕ, ℤ, ◌&&◌, ◌*ℤ◌, ◌++◌, ◌+ℤ◌, ◌-ℤ◌, ◌==◌, ◌∷◌}
use Rattle.std.specs.Cmp.Lexicographic.{slice_cmp}
use Rattle.std.specs.Fmt.{signed_decimal}
use Rattle.std.specs.List.{list_all}
use Rattle.std.specs.Option.{option_map_or}
use Rattle.std.specs.Ordering.{int_eq, is_lt, nat_cmp}
use Rattle.std.specs.Str.{bytes_eq}
use Rattle.sc_base.specs.Ascending.{contains}
use Rattle.sc_base.specs.Text.{is_int}
use Rattle.sc_types.specs.Profiles.{text_limit}
use Rattle.sc_types.specs.Values.{depth, truth_text, weight}
use Rattle.sc_types.specs.declared.eval_fault.EvalFault.{EvalFault}
use Rattle.sc_types.specs.declared.eval_fault.EvalFault.TheVariants.{Unknown, WrongKind, Overflow, ZeroDivisor, BadIndex, TooLong}
use Rattle.sc_types.specs.declared.event.Data.{Data}
use Rattle.sc_types.specs.declared.event.Data.TheVariants.{One, Pairs}
use Rattle.sc_types.specs.declared.event.Event.{Event}
use Rattle.sc_types.specs.declared.event.Kind.{Kind}
use Rattle.sc_types.specs.declared.event.Kind.TheVariants as kind
use Rattle.sc_types.specs.declared.expr.EventField.{EventField}
use Rattle.sc_types.specs.declared.expr.EventField.TheVariants as field
use Rattle.sc_types.specs.declared.expr.Expr.{Expr, Row_of-Expr, end_of-Expr, more_of-Expr}
use Rattle.sc_types.specs.declared.expr.Expr.TheVariants as expr
use Rattle.sc_types.specs.declared.expr.Op.{Op}
use Rattle.sc_types.specs.declared.expr.Op.TheVariants.{Or, And, Eq, Ne, Lt, Le, Gt, Ge, Add, Sub, Mul, Div, Rem}
use Rattle.sc_types.specs.declared.value.Value.{Value, Row_of-Value, end_of-Value, more_of-Value, out-Value}
use Rattle.sc_types.specs.declared.value.Value.TheOpen.{Value-F}
use Rattle.sc_types.specs.declared.value.Value.TheVariants.{Bool as Truth, Int, Text, List as Listed, List'}
use Rattle.sc_law.specs.Runs.{Env}
use Rattle.sc_types.specs.declared.limits.TheConstants.{ITEM_LIMIT, LIST_DEPTH_LIMIT, VALUE_WEIGHT_LIMIT}
use Rattle.sc_types.specs.declared.profile.Profile.{Profile}
use Rattle.sc_types.specs.declared.profile.Profile.TheVariants.{Flat, Nested}

abbrev pub Evaluated : Type 0
Evaluated = Result Value EvalFault

-- goes on with what was found, or keeps the fault
abbrev pub on_found : {A B : Type 0} → (A → Result B EvalFault) → Result A EvalFault → Result B EvalFault
on_found f (Ok a) = f a
on_found f (Err fault) = Err fault

-- the left operand's fault comes before the right one's
abbrev pub on_both : (Value → Value → Evaluated) → Evaluated → Evaluated → Evaluated
on_both f a b = on_found (λ v. on_found (f v) b) a

-- kinds of values

abbrev pub truth_in : Value-F Value → Option Bool
truth_in (Value-F.Bool b) = Some b
truth_in v = None

abbrev pub int_in : Value-F Value → Option ℤ
int_in (Value-F.Int n) = Some n
int_in v = None

abbrev pub text_in_value : Value-F Value → Option (List ℕ)
text_in_value (Value-F.Text text) = Some text
text_in_value v = None

abbrev pub items_in : Value-F Value → Option (List Value)
items_in (Value-F.List items) = Some items
items_in v = None

abbrev pub truth_of : Value → Option Bool
truth_of v = truth_in (out-Value v)

abbrev pub int_of : Value → Option ℤ
int_of v = int_in (out-Value v)

abbrev pub text_of : Value → Option (List ℕ)
text_of v = text_in_value (out-Value v)

abbrev pub items_of : Value → Option (List Value)
items_of v = items_in (out-Value v)

-- goes on with a value of the kind
abbrev pub of_kind : {A B : Type 0} → (A → Result B EvalFault) → Option A → Result B EvalFault
of_kind f o = option_map_or f o (Err WrongKind)

abbrev pub on_truth : (Bool → Evaluated) → Evaluated → Evaluated
on_truth f v = on_found (λ v. of_kind f (truth_of v)) v

-- limits: 64 bits; the bytes of a text by the profile; the items of a list, and what it weighs

abbrev pub in_range : ℤ → Evaluated
in_range n = if is_int n then Ok (Int n) else Err Overflow

abbrev pub short_text : Profile → List ℕ → Evaluated
short_text profile text = if nat_le (length text) (text_limit profile) then Ok (Text text) else Err TooLong

abbrev pub short_list : List Value → Evaluated
short_list items =
    if nat_le (length items) ITEM_LIMIT && nat_le (weight (Listed items)) VALUE_WEIGHT_LIMIT then Ok (Listed items)
    else Err TooLong

-- equality; values of two kinds are never equal

abbrev pub same_truth : Bool → Bool → Bool
same_truth a b = if a then b else not b

-- two lists are the same where they are as long and their items are
unfoldable mutual
  pub same_value : Value → Value → Bool
  same_value (Truth b) v = option_map_or (same_truth b) (truth_of v) false
  same_value (Int n) v = option_map_or (int_eq n) (int_of v) false
  same_value (Text text) v = option_map_or (bytes_eq text) (text_of v) false
  same_value (List' shape row) v = option_map_or (same_items row) (items_of v) false

  pub same_items : {m : _} → Row_of-Value m → List Value → Bool
  same_items end_of-Value [] = true
  same_items end_of-Value (v ∷ vs) = false
  same_items (more_of-Value w rest) [] = false
  same_items (more_of-Value w rest) (v ∷ vs) = same_value w v && same_items rest vs

-- order and arithmetic

-- texts are ordered by their bytes
abbrev pub is_text_before : List ℕ → List ℕ → Bool
is_text_before a b = is_lt (slice_cmp nat_cmp a b)

-- the comparison of an operator, from the test of `<`
abbrev pub compared : {A : Type 0} → Op → (A → A → Bool) → A → A → Bool
compared Le less a b = not (less b a)
compared Gt less a b = less b a
compared Ge less a b = not (less a b)
compared operator less a b = less a b

abbrev pub ordered : Op → Value-F Value → Value-F Value → Evaluated
ordered operator (Value-F.Int m) (Value-F.Int n) = Ok (Truth (compared operator int_lt m n))
ordered operator (Value-F.Text s) (Value-F.Text t) = Ok (Truth (compared operator is_text_before s t))
ordered operator v w = Err WrongKind

abbrev pub sum_of : Profile → Value-F Value → Value-F Value → Evaluated
sum_of profile (Value-F.Int m) (Value-F.Int n) = in_range (m +ℤ n)
sum_of profile (Value-F.Text s) (Value-F.Text t) = short_text profile (s ++ t)
sum_of profile (Value-F.List vs) (Value-F.List ws) = short_list (vs ++ ws)
sum_of profile v w = Err WrongKind

abbrev pub is_zero : ℤ → Bool
is_zero n = nat_abs n == 0

-- `/` cuts toward zero, and `%` has the sign of its left side; a zero on the right is looked at before the range
abbrev pub result_of : Op → ℤ → ℤ → Evaluated
result_of Sub m n = in_range (m -ℤ n)
result_of Mul m n = in_range (m *ℤ n)
result_of Div m n = if is_zero n then Err ZeroDivisor else in_range (int_div m n)
result_of Rem m n = if is_zero n then Err ZeroDivisor else in_range (int_rem m n)
result_of operator m n = Err WrongKind

abbrev pub of_ints : Op → Value → Value → Evaluated
of_ints operator v w = of_kind (λ m. of_kind (result_of operator m) (int_of w)) (int_of v)

-- an operator on two values; `||` and `&&` are not asked here
abbrev pub two : Profile → Op → Value → Value → Evaluated
two profile Eq v w = Ok (Truth (same_value v w))
two profile Ne v w = Ok (Truth (not (same_value v w)))
two profile Lt v w = ordered Lt (out-Value v) (out-Value w)
two profile Le v w = ordered Le (out-Value v) (out-Value w)
two profile Gt v w = ordered Gt (out-Value v) (out-Value w)
two profile Ge v w = ordered Ge (out-Value v) (out-Value w)
two profile Add v w = sum_of profile (out-Value v) (out-Value w)
two profile operator v w = of_ints operator v w

-- lists

-- the values of the items, up to the first fault
abbrev pub all_of : Env → List (Env → Evaluated) → Result (List Value) EvalFault
all_of env [] = Ok []
all_of env (part ∷ parts) = on_found (λ v. on_found (λ vs. Ok (v ∷ vs)) (all_of env parts)) (part env)

-- an item is an integer or a text, or a list where lists nest
abbrev pub is_item_in : Profile → Value-F Value → Bool
is_item_in profile (Value-F.Bool b) = false
is_item_in profile (Value-F.Int n) = true
is_item_in profile (Value-F.Text text) = true
is_item_in Flat (Value-F.List items) = false
is_item_in Nested (Value-F.List items) = true

abbrev pub is_item_kind : Profile → Value → Bool
is_item_kind profile v = is_item_in profile (out-Value v)

abbrev pub shallow : Value → Evaluated
shallow v = if nat_le (depth v) LIST_DEPTH_LIMIT then Ok v else Err TooLong

-- the items are evaluated first, then their kinds are looked at, then the limits of the list
abbrev pub listed : Profile → List Value → Evaluated
listed profile items =
    if list_all (is_item_kind profile) items then on_found shallow (short_list items) else Err WrongKind

abbrev pub place_in : List Value → ℤ → Evaluated
place_in items (pos n) = option_map_or Ok (slice_get items n) (Err BadIndex)
place_in items (negsuc n) = Err BadIndex

abbrev pub item_at : Value → Value → Evaluated
item_at v w = of_kind (λ items. of_kind (place_in items) (int_of w)) (items_of v)

abbrev pub length_of : Value-F Value → Evaluated
length_of (Value-F.Text text) = Ok (Int (pos (length text)))
length_of (Value-F.List items) = Ok (Int (pos (length items)))
length_of v = Err WrongKind

abbrev pub as_text : Value-F Value → Evaluated
as_text (Value-F.Bool b) = Ok (Text (truth_text b))
as_text (Value-F.Int n) = Ok (Text (signed_decimal n))
as_text (Value-F.Text text) = Ok (Text text)
as_text (Value-F.List items) = Err WrongKind

-- names

abbrev pub or_unknown : Option Value → Evaluated
or_unknown v = ok_or v Unknown

abbrev pub is_pair_named : {A : Type 0} → List ℕ → List ℕ × A → Bool
is_pair_named name pair = bytes_eq pair.0 name

abbrev pub declared_value : List ℕ → Env → Option Value
declared_value name env =
    option_and_then (λ (pair : List ℕ × Option Value). pair.1) (find (is_pair_named name) env.values)

-- 5.10: `_sessionid` and `_name`; else the value of a datum that is set
abbrev pub datum : List ℕ → Env → Evaluated
datum name env =
    if bytes_eq name (codes "_sessionid") then Ok (Text env.session)
    else if bytes_eq name (codes "_name") then Ok (Text env.chart_name)
    else or_unknown (declared_value name env)

abbrev pub kind_text : Kind → List ℕ
kind_text kind.Platform = codes "platform"
kind_text kind.Internal = codes "internal"
kind_text kind.External = codes "external"

-- 5.10.1, `_event.data`, where the event has one value
abbrev pub payload_value : Data → Option Value
payload_value (One v) = Some v
payload_value d = None

-- the last pair of that name
abbrev pub last_pair : {A : Type 0} → List ℕ → List (List ℕ × A) → Option A
last_pair {A} name pairs = option_map (λ (pair : List ℕ × A). pair.1) (find (is_pair_named name) (reverse pairs))

-- 5.10.1, `_event.data.NAME`
abbrev pub payload_of : List ℕ → Data → Option Value
payload_of name (Pairs pairs) = last_pair name pairs
payload_of name d = None

-- 5.10.1, the fields of `_event`
abbrev pub field_value : EventField → Event → Option Value
field_value field.Name e = Some (Text e.name)
field_value field.Kind e = Some (Text (kind_text e.kind))
field_value field.SendId e = Some (Text e.sendid)
field_value field.Origin e = Some (Text e.origin)
field_value field.OriginType e = Some (Text e.origintype)
field_value field.InvokeId e = Some (Text e.invokeid)
field_value field.Payload e = payload_value e.payload
field_value (field.PayloadOf name) e = payload_of name e.payload

-- 5.9.2, `In`: whether the state of that id is active; a history never is
abbrev pub is_active : List ℕ → Env → Bool
is_active id env =
    option_map_or (λ (row : List ℕ × ℕ). contains env.configuration row.1) (find (is_pair_named id) env.ids) false

-- expressions

-- An operator on two expressions. The kind of the left side of `||` and `&&` is looked at before the right side is
-- evaluated, if it is.
abbrev pub two_of : Op → (Env → Evaluated) → (Env → Evaluated) → Env → Evaluated
two_of Or a b env = on_truth (λ t. if t then Ok (Truth true) else on_truth (λ u. Ok (Truth u)) (b env)) (a env)
two_of And a b env = on_truth (λ t. if t then on_truth (λ u. Ok (Truth u)) (b env) else Ok (Truth false)) (a env)
two_of operator a b env = on_both (two env.profile operator) (a env) (b env)

-- An expression, from left to right, up to the first fault; the expressions of a list; and the one expression behind a
-- pointer.
unfoldable mutual
  pub value : Expr → Env → Evaluated
  value (expr.Bool b) env = Ok (Truth b)
  value (expr.Int n) env = Ok (Int n)
  value (expr.Text text) env = Ok (Text text)
  value (expr.List' shape row) env = on_found (listed env.profile) (all_of env (values row))
  value (expr.Datum name) env = datum name env
  value (expr.Field f) env = or_unknown (option_and_then (field_value f) env.bound)
  value (expr.Active id) env = Ok (Truth (is_active id env))
  value (expr.Not' p a) env = on_truth (λ t. Ok (Truth (not t))) (only a env)
  value (expr.Neg' p a) env = on_found (λ v. of_kind (λ n. in_range (neg_ℤ n)) (int_of v)) (only a env)
  value (expr.Two' operator p a q b) env = two_of operator (only a) (only b) env
  value (expr.Item' p a q b) env = on_both item_at (only a env) (only b env)
  value (expr.Len' p a) env = on_found (λ v. length_of (out-Value v)) (only a env)
  value (expr.AsText' p a) env = on_found (λ v. as_text (out-Value v)) (only a env)

  pub values : {m : _} → Row_of-Expr m → List (Env → Evaluated)
  values end_of-Expr = []
  values (more_of-Expr e rest) = value e ∷ values rest

  pub only : {m : _} → Row_of-Expr m → Env → Evaluated
  only end_of-Expr env = Err Unknown
  only (more_of-Expr e rest) env = value e env
