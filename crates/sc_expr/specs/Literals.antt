-- How a literal is read, token by token. Only contracts of private functions cite this.
use Rattle.std.specs.Prelude.{◌≡◌, ◌<◌, ℕ, ◌+◌, nat_lt, if◌then◌else◌, codes, Bool, true, false, Option, None, Some, List, [], ◌∷◌, drop, length}
use Rattle.sc_types.specs.Values.{Open, behind, due}
use Rattle.sc_types.specs.declared.limits.TheConstants.{LIST_DEPTH_LIMIT}
use Rattle.sc_types.specs.declared.token.Mark.TheVariants.{OpenSquare, CloseSquare, Comma}
use Rattle.sc_types.specs.declared.token.Token.{Token}
use Rattle.sc_types.specs.declared.token.Token.TheVariants.{Mark as Sign}
use Rattle.sc_types.specs.declared.value.Value.{Value}
use Rattle.sc_types.specs.declared.value.Value.TheVariants.{List as Listed}

abbrev pub is_open : Token → Bool
is_open (Sign OpenSquare) = true
is_open t = false

abbrev pub is_close : Token → Bool
is_close (Sign CloseSquare) = true
is_close t = false

-- where so many lists may yet be opened, these tokens begin with the value, and those stand behind it
abbrev pub Begins : ℕ → List Token → Value → List Token → Type 0
Begins levels ts v rest =
    (lists : Open) → length lists + levels ≡ LIST_DEPTH_LIMIT → due lists ts ≡ behind v lists rest

-- these tokens begin with no value
abbrev pub BeginsNone : ℕ → List Token → Type 0
BeginsNone levels ts = (lists : Open) → length lists + levels ≡ LIST_DEPTH_LIMIT → due lists ts ≡ None

-- no list is open, or the innermost has an item
abbrev pub HasItem : Open → Type 0
HasItem [] = Unit {0}
HasItem (items ∷ lists) = 0 < length items

-- nor do these behind a comma, where a bracket closes no empty list
abbrev pub NoneNext : ℕ → List Token → Type 0
NoneNext levels ts =
    (lists : Open) → HasItem lists → length lists + levels ≡ LIST_DEPTH_LIMIT → due lists ts ≡ None

-- what stands behind an item of a list: a comma, or the bracket that ends the list
abbrev pub separator : List Token → Option Bool
separator (Sign Comma ∷ ts) = Some true
separator (Sign CloseSquare ∷ ts) = Some false
separator ts = None

abbrev pub goes_on : List Value → Open → List Token → Option Bool → Option Value
goes_on items lists ts None = None
goes_on items lists ts (Some true) = due (items ∷ lists) (drop 1 ts)
goes_on items lists ts (Some false) = behind (Listed items) lists (drop 1 ts)

-- the value that is read where these items of the innermost list have been
abbrev pub after_items : List Value → Open → List Token → Option Value
after_items items lists ts = goes_on items lists ts (separator ts)

-- what stands before the item at a place of a list
abbrev pub comma : ℕ → List ℕ
comma place = if nat_lt 0 place then codes "," else []
