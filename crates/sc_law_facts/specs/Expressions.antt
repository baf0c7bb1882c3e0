-- Expressions with their values and faults. SCXML 5.9 leaves the expression language to the host; its values are
-- numbers of 64 bits, texts, lists and truth values.
use Rattle.std.specs.Prelude.{ℕ, zero, suc, List, [], ◌∷◌, Option, Some, None, Result, Ok, Err, true, false, codes}
use Rattle.sc_types.specs.declared.eval_fault.EvalFault.{EvalFault}
use Rattle.sc_types.specs.declared.eval_fault.EvalFault.TheVariants.{Unknown, WrongKind, Overflow, ZeroDivisor, BadIndex, TooLong}
use Rattle.sc_types.specs.declared.event.Data.TheVariants.{One, Pairs}
use Rattle.sc_types.specs.declared.event.Event.{Event}
use Rattle.sc_types.specs.declared.expr.EventField.TheVariants as field
use Rattle.sc_types.specs.declared.expr.Expr.{Expr}
use Rattle.sc_types.specs.declared.expr.Expr.TheVariants as expr
use Rattle.sc_types.specs.declared.profile.Profile.{Profile}
use Rattle.sc_types.specs.declared.profile.Profile.TheVariants.{Flat, Nested}
use Rattle.sc_types.specs.declared.value.Value.{Value}
use Rattle.sc_law.specs.Runs.{Env}
use Rattle.sc_law_facts.specs.ChartWords.{◌&◌}
use Rattle.sc_law_facts.specs.Stories.{Sum}
use Rattle.sc_law_facts.specs.TurnWords.{outer, pair, platform, with_data}
use Rattle.sc_law_facts.specs.ValueWords.{◌and◌, ◌eq◌, ◌ge◌, ◌gt◌, ◌le◌, ◌less◌, ◌lt◌, ◌ne◌, ◌or◌, ◌over◌, ◌plus◌, ◌rem◌, ◌times◌, active, bool, boolean, datum, event_data, event_data_of, event_field, int, item, len, list, minus, negative, not, number, row, string, text, text_of}

-- data of each kind, and three states, of which the second is not active
abbrev env : Profile → Option Event → Env
env profile bound = record {
  values = (codes "none", None) ∷ (codes "n", Some (number 3)) ∷ (codes "m", Some (negative 5))
      ∷ (codes "t", Some (string "x")) ∷ (codes "b", Some (boolean true))
      ∷ (codes "l", Some (list (number 1 ∷ string "a" ∷ number 5 ∷ []))) ∷ [];
  configuration = 0 ∷ 2 ∷ [];
  ids = (codes "a", 0) ∷ (codes "b", 1) ∷ (codes "#2", 2) ∷ [];
  bound = bound;
  session = codes "s";
  chart_name = codes "nm";
  profile = profile;
}

abbrev sum : Profile → Option Event → Expr → Result Value EvalFault → List Sum
sum profile bound e result = record { expr = e; env = env profile bound; result = result } ∷ []

-- an expression that has a value, and one that has none, where there is no event yet
abbrev gives : Expr → Value → List Sum
gives e v = sum Flat None e (Ok v)

abbrev fails : Expr → EvalFault → List Sum
fails e fault = sum Flat None e (Err fault)

-- the same while an event is handled
abbrev gives_at : Event → Expr → Value → List Sum
gives_at bound e v = sum Flat (Some bound) e (Ok v)

abbrev fails_at : Event → Expr → EvalFault → List Sum
fails_at bound e fault = sum Flat (Some bound) e (Err fault)

-- the same where lists nest
abbrev nests : Expr → Value → List Sum
nests e v = sum Nested None e (Ok v)

abbrev nests_not : Expr → EvalFault → List Sum
nests_not e fault = sum Nested None e (Err fault)

abbrev greatest : Expr
greatest = int 9223372036854775807

abbrev least : Expr
least = minus greatest less int 1

-- Numbers have 64 bits, and what does not fit is a fault. A quotient is rounded towards zero, and a remainder has the
-- sign of the dividend.
abbrev numbers : List Sum
numbers =
    gives least (negative 9223372036854775808)
    & fails (greatest plus int 1) Overflow
    & fails (least less int 1) Overflow
    & fails (greatest times int 2) Overflow
    & fails (minus least) Overflow
    & fails (least over minus (int 1)) Overflow
    & gives (least rem minus (int 1)) (number 0)
    & gives (minus (int 7) over int 2) (negative 3)
    & gives (int 1 over minus (int 2)) (number 0)
    & gives (minus (int 7) rem int 2) (negative 1)
    & gives (int 7 rem minus (int 2)) (number 1)
    & fails (int 1 over int 0) ZeroDivisor
    & fails (int 1 rem int 0) ZeroDivisor
    & gives (int 3 times int 4 less minus (datum "m")) (number 7)
    & gives (minus (datum "n")) (negative 3)
    & fails (minus (datum "t")) WrongKind
    & fails (greatest less datum "m" eq datum "n") Overflow

-- Conditions: the left side comes first, and decides where it can; both sides have to be truth values then. Values of
-- two kinds are not equal, and lists have no order.
abbrev truths : List Sum
truths =
    fails (int 1 and datum "nope") WrongKind
    & fails (datum "nope" and int 1) Unknown
    & gives (bool false and datum "nope") (boolean false)
    & fails (bool true and datum "nope") Unknown
    & gives (bool true or datum "nope") (boolean true)
    & fails (text "a" or int 1) WrongKind
    & fails (bool false or int 1) WrongKind
    & gives (not (datum "b")) (boolean false)
    & fails (not (datum "n")) WrongKind
    & gives (int 1 eq bool true) (boolean false)
    & gives (datum "n" ne int 2) (boolean true)
    & gives (text "a" lt text "b") (boolean true)
    & gives (text "10" lt text "9") (boolean true)
    & gives (text "" gt datum "t") (boolean false)
    & gives (int 4 le greatest) (boolean true)
    & gives (int 0 ge datum "n") (boolean false)
    & fails (row (int 1 ∷ []) lt row (int 2 ∷ [])) WrongKind
    & fails (int 1 lt text "2") WrongKind

-- Lists hold numbers and texts. Items are looked at before the list is indexed.
abbrev lists : List Sum
lists =
    fails (row (int 1 ∷ bool true ∷ [])) WrongKind
    & fails (row (datum "nope" ∷ bool true ∷ [])) Unknown
    & gives (row (int 1 ∷ text "a" ∷ []) plus row (int 2 ∷ [])) (list (number 1 ∷ string "a" ∷ number 2 ∷ []))
    & gives (row [] plus row []) (list [])
    & fails (text "a" plus datum "l") WrongKind
    & gives (item (datum "l") (int 0)) (number 1)
    & fails (item (datum "l") (int 3)) BadIndex
    & fails (item (datum "l") (minus (int 1))) BadIndex
    & fails (item (row []) (int 0)) BadIndex
    & fails (item (row (datum "n" ∷ text_of (row (int 1 ∷ [])) ∷ [])) (int 0)) WrongKind
    & gives (len (datum "l")) (number 3)
    & gives (len (row [])) (number 0)

-- `'€'`, in UTF-8
abbrev euro : Expr
euro = expr.Text (226 ∷ 130 ∷ 172 ∷ [])

-- so many brackets round 1, and the list that they write
abbrev brackets : ℕ → Expr
brackets zero = int 1
brackets (suc n) = row (brackets n ∷ [])

abbrev bracketed : ℕ → Value
bracketed zero = number 1
bracketed (suc n) = list (bracketed n ∷ [])

-- Where lists nest, eight may stand in one another; where values are flat, no list stands in one. A truth value is no
-- item.
abbrev nested : List Sum
nested =
    nests (row (row (int 1 ∷ int 2 ∷ []) ∷ text "a" ∷ [])) (list (list (number 1 ∷ number 2 ∷ []) ∷ string "a" ∷ []))
    & nests (item (item (row (int 1 ∷ brackets 2 ∷ [])) (int 1)) (int 0)) (bracketed 1)
    & nests (brackets 8) (bracketed 8)
    & nests_not (brackets 9) TooLong
    & fails (brackets 2) WrongKind
    & nests_not (row (bool true ∷ [])) WrongKind

-- The length of a text is that of its bytes. Numbers and truth values have texts, and a text is its own.
abbrev texts : List Sum
texts =
    gives (len (text "abc")) (number 3)
    & gives (len euro) (number 3)
    & gives (text "b" plus datum "t") (string "bx")
    & gives (text_of (bool true) plus text_of (minus (int 5))) (string "true-5")
    & gives (text_of (text_of (datum "b" and active "#2"))) (string "true")
    & gives (text_of (int 4 eq greatest)) (string "false")
    & fails (text_of (datum "l")) WrongKind

-- Names: 5.9.2 for `In`, by ids, of which a state without `id` has one by its number, and 5.10 for those of the
-- platform. A datum that is unset is as one that is unknown.
abbrev names : List Sum
names =
    gives (active "a") (boolean true)
    & gives (active "b") (boolean false)
    & gives (active "#2") (boolean true)
    & gives (active "none") (boolean false)
    & gives (datum "_sessionid") (string "s")
    & gives (datum "_name") (string "nm")
    & fails (datum "nope") Unknown
    & fails (datum "none" less datum "m") Unknown

abbrev with_one : Event
with_one = with_data (One (number 4)) (platform "e")

abbrev with_pairs : Event
with_pairs = with_data (Pairs (pair "q" (number 1) & pair "q" (number 7) & pair "t" (string "z"))) (outer "e")

-- 5.10.1: there is no `_event` before the first event. Of two data of a name the last counts; data that are one value
-- have no names, and data that are pairs are no value.
abbrev events : List Sum
events =
    fails (event_field field.Name) Unknown
    & fails (text_of (event_field field.Origin)) Unknown
    & fails (datum "t" plus event_field field.Kind) Unknown
    & gives_at with_one (event_field field.Name) (string "e")
    & gives_at with_one (text_of (datum "m" plus int 3) plus event_field field.Kind) (string "-2platform")
    & gives_at with_one (event_field field.SendId plus item (row (event_field field.Origin ∷ [])) (int 0)) (string "")
    & gives_at with_one event_data (number 4)
    & fails_at with_one (event_data_of "q") Unknown
    & gives_at with_pairs (event_field field.Kind plus event_field field.OriginType) (string "external")
    & gives_at with_pairs (event_field field.Name plus event_field field.InvokeId) (string "e")
    & gives_at with_pairs (event_data_of "q") (number 7)
    & fails_at with_pairs (event_data_of "m") Unknown

-- all of these
abbrev pub sums : List Sum
sums = numbers & truths & lists & nested & texts & names & events
