-- Values, their limits, and the literals that write them. SCXML 5.9 leaves values to the data model: this host's own
-- rule.
use Rattle.std.specs.Prelude.{ℕ, suc, ◌+◌, ◌-◌, ◌==◌, Bool, true, false, not, ◌&&◌, max, nat_le, nat_lt, if◌then◌else◌, Option, Some, None, option_and_then, List, [], ◌∷◌, ◌++◌, length, slice_index, codes}
use Rattle.std.specs.List.{list_all, flat_map}
use Rattle.std.specs.Fmt.{signed_decimal}
use Rattle.std.specs.Str.{bytes_eq}
use Rattle.sc_types.specs.Descriptors.{is_white_space}
use Rattle.sc_base.specs.Text.{is_text, is_text_within, is_int}
use Rattle.sc_base.specs.declared.text.TheConstants.{LONG_TEXT_LIMIT}
use Rattle.sc_types.specs.Tokens.{tokens}
use Rattle.sc_types.specs.declared.limits.TheConstants.{ITEM_LIMIT, LIST_DEPTH_LIMIT, VALUE_WEIGHT_LIMIT}
use Rattle.sc_types.specs.declared.profile.Profile.TheVariants.{Nested}
use Rattle.sc_types.specs.declared.token.Mark.TheVariants.{OpenSquare, CloseSquare, Comma}
use Rattle.sc_types.specs.declared.token.Token.{Token}
use Rattle.sc_types.specs.declared.token.Token.TheVariants.{Word, Number, Text as Quoted, Mark as Sign}
use Rattle.sc_types.specs.declared.value.Value.{Value, Row_of-Value, end_of-Value, more_of-Value, out-Value}
use Rattle.sc_types.specs.declared.value.Value.TheFolds.{fold-Value}
use Rattle.sc_types.specs.declared.value.Value.TheOpen.{Value-F}
use Rattle.sc_types.specs.declared.value.Value.TheVariants.{Bool as Truth, Int, Text, List as Listed, List'}

-- sizes

-- what a value weighs, about its bytes in memory: 16, and its bytes or its items
unfoldable mutual
  pub weight : Value → ℕ
  weight (Truth b) = 16
  weight (Int n) = 16
  weight (Text text) = 16 + length text
  weight (List' shape row) = 16 + weights row

  pub weights : {m : _} → Row_of-Value m → ℕ
  weights end_of-Value = 0
  weights (more_of-Value v rest) = weight v + weights rest

-- how many lists stand in one another: 0 for what is no list
unfoldable mutual
  pub depth : Value → ℕ
  depth (Truth b) = 0
  depth (Int n) = 0
  depth (Text text) = 0
  depth (List' shape row) = suc (deepest row)

  pub deepest : {m : _} → Row_of-Value m → ℕ
  deepest end_of-Value = 0
  deepest (more_of-Value v rest) = max (depth v) (deepest rest)

-- of the items of a list
abbrev pub deepest_of : List Value → ℕ
deepest_of [] = 0
deepest_of (v ∷ vs) = max (depth v) (deepest_of vs)

-- limits

abbrev pub is_truth : Value → Bool
is_truth v = elim (out-Value v) [ Value-F.Bool b ↦ true | Value-F.Int n ↦ false | Value-F.Text text ↦ false | Value-F.List items ↦ false ]

-- whether its texts and lists are no longer than they may be, and no item of a list is a truth value
unfoldable mutual
  pub has_fit_parts : Value → Bool
  has_fit_parts (Truth b) = true
  has_fit_parts (Int n) = is_int n
  has_fit_parts (Text text) = is_text_within LONG_TEXT_LIMIT text
  has_fit_parts (List' shape row) = nat_le (count row) ITEM_LIMIT && are_fit_items row

  pub count : {m : _} → Row_of-Value m → ℕ
  count end_of-Value = 0
  count (more_of-Value v rest) = suc (count rest)

  pub are_fit_items : {m : _} → Row_of-Value m → Bool
  are_fit_items end_of-Value = true
  are_fit_items (more_of-Value v rest) = not (is_truth v) && has_fit_parts v && are_fit_items rest

-- an item of a list
abbrev pub is_fit_item : Value → Bool
is_fit_item v = not (is_truth v) && has_fit_parts v

abbrev pub fits : Value → Bool
fits v = has_fit_parts v && nat_le (depth v) LIST_DEPTH_LIMIT && nat_le (weight v) VALUE_WEIGHT_LIMIT

-- what is within the limits of flat values: texts of at most 4,096 bytes, and lists of integers and such texts

abbrev pub is_flat_item : Value → Bool
is_flat_item v =
    elim (out-Value v) [ Value-F.Bool b ↦ false | Value-F.Int n ↦ is_int n | Value-F.Text text ↦ is_text text | Value-F.List items ↦ false ]

abbrev pub fits_flat : Value → Bool
fits_flat v = elim (out-Value v) [
  | Value-F.Bool b ↦ true
  | Value-F.Int n ↦ is_int n
  | Value-F.Text text ↦ is_text text
  | Value-F.List items ↦ nat_le (length items) ITEM_LIMIT && list_all is_flat_item items
]

-- writing

-- a byte of a text: `\`, `'`, line feed and tab are escaped
abbrev pub escaped : ℕ → List ℕ
escaped b =
    if b == 92 then codes "\\\\"
    else (if b == 39 then codes "\\'" else (if b == 10 then codes "\\n" else (if b == 9 then codes "\\t" else b ∷ [])))

abbrev pub text_literal : List ℕ → List ℕ
text_literal text = codes "'" ++ flat_map escaped text ++ codes "'"

abbrev pub truth_text : Bool → List ℕ
truth_text b = if b then codes "true" else codes "false"

-- with commas between
abbrev pub joined : List (List ℕ) → List ℕ
joined [] = []
joined (text ∷ []) = text
joined (text ∷ other ∷ texts) = text ++ codes "," ++ joined (other ∷ texts)

abbrev pub value_step : Value-F (List ℕ) → List ℕ
value_step (Value-F.Bool b) = truth_text b
value_step (Value-F.Int n) = signed_decimal n
value_step (Value-F.Text text) = text_literal text
value_step (Value-F.List items) = codes "[" ++ joined items ++ codes "]"

unfoldable pub value_text : Value → List ℕ
value_text v = fold-Value (List ℕ) value_step v

-- reading

abbrev pub truth_of : List ℕ → Option Value
truth_of word =
    if bytes_eq word (codes "true") then Some (Truth true)
    else (if bytes_eq word (codes "false") then Some (Truth false) else None)

-- the value that a token alone writes
abbrev pub single : Token → Option Value
single (Word word) = truth_of word
single (Number n) = Some (Int n)
single (Quoted text) = Some (Text text)
single t = None

-- the lists whose brackets are open, the innermost first, each with the items that stand in it so far
abbrev pub Open : Type 0
Open = List (List Value)

-- The value that the tokens of a literal write: `due` where a value comes next, and `behind` one. No more lists stand
-- in one another than may.
unfoldable mutual
  pub due : Open → List Token → Option Value
  due lists [] = None
  due lists (Sign OpenSquare ∷ ts) = if nat_lt (length lists) LIST_DEPTH_LIMIT then due ([] ∷ lists) ts else None
  due ([] ∷ lists) (Sign CloseSquare ∷ ts) = behind (Listed []) lists ts
  due lists (t ∷ ts) = option_and_then (λ v. behind v lists ts) (single t)

  pub behind : Value → Open → List Token → Option Value
  behind v [] [] = Some v
  behind v (items ∷ lists) (Sign Comma ∷ ts) = due ((items ++ v ∷ []) ∷ lists) ts
  behind v (items ∷ lists) (Sign CloseSquare ∷ ts) = behind (Listed (items ++ v ∷ [])) lists ts
  behind v lists ts = None

abbrev pub fit_value : Value → Option Value
fit_value v = if fits v then Some v else None

-- no white space stands round a literal
abbrev pub is_trimmed : List ℕ → Bool
is_trimmed text = not (is_white_space (slice_index text 0)) && not (is_white_space (slice_index text (length text - 1)))

-- the value that a text writes
unfoldable pub literal_value : List ℕ → Option Value
literal_value text =
    if is_trimmed text then option_and_then fit_value (due [] (tokens Nested true text)) else None
