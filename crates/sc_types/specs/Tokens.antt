-- The tokens of expressions and of value literals. SCXML 5.9 leaves the language to the data model: this host's own
-- rule.
use Rattle.std.specs.Prelude.{ℕ, zero, suc, ◌^◌, ◌==◌, Bool, not, ◌&&◌, ◌||◌, nat_eq, nat_le, nat_lt, if◌then◌else◌, Option, Some, None, option_map, option_and_then, List, [], ◌∷◌, length, drop, find, slice_index, pos, neg_ℤ, decimal, codes}
use Rattle.std.specs.List.{starts_with, prefix_len, take_while}
use Rattle.std.specs.Str.{bytes_eq}
use Rattle.std.specs.Str.Parse.{digits_value}
use Rattle.sc_types.specs.Descriptors.{is_white_space}
use Rattle.sc_types.specs.Profiles.{text_limit}
use Rattle.sc_base.specs.Text.{is_letter, is_digit, is_text_within}
use Rattle.sc_types.specs.declared.expr.Op.{Op}
use Rattle.sc_types.specs.declared.expr.Op.TheVariants.{Or, And, Eq, Ne, Lt, Le, Gt, Ge, Add, Sub, Mul, Div, Rem}
use Rattle.sc_types.specs.declared.profile.Profile.{Profile}
use Rattle.sc_types.specs.declared.token.Mark.{Mark}
use Rattle.sc_types.specs.declared.token.Mark.TheVariants as mark
use Rattle.sc_types.specs.declared.token.Token.{Token}
use Rattle.sc_types.specs.declared.token.Token.TheVariants.{Word, Number, Text, Operator, Mark as Sign, Bad}

abbrev pub op_text : Op → List ℕ
op_text Or = codes "||"
op_text And = codes "&&"
op_text Eq = codes "=="
op_text Ne = codes "!="
op_text Lt = codes "<"
op_text Le = codes "<="
op_text Gt = codes ">"
op_text Ge = codes ">="
op_text Add = codes "+"
op_text Sub = codes "-"
op_text Mul = codes "*"
op_text Div = codes "/"
op_text Rem = codes "%"

abbrev pub mark_text : Mark → List ℕ
mark_text mark.Not = codes "!"
mark_text mark.Open = codes "("
mark_text mark.Close = codes ")"
mark_text mark.OpenSquare = codes "["
mark_text mark.CloseSquare = codes "]"
mark_text mark.Comma = codes ","
mark_text mark.Dot = codes "."

-- the longer ones first
abbrev pub ops : List Op
ops = Or ∷ And ∷ Eq ∷ Ne ∷ Le ∷ Ge ∷ Lt ∷ Gt ∷ Add ∷ Sub ∷ Mul ∷ Div ∷ Rem ∷ []

abbrev pub marks : List Mark
marks = mark.Not ∷ mark.Open ∷ mark.Close ∷ mark.OpenSquare ∷ mark.CloseSquare ∷ mark.Comma ∷ mark.Dot ∷ []

-- which of them a text begins with
abbrev pub op_at : List ℕ → Option Op
op_at text = find (λ op. starts_with nat_eq text (op_text op)) ops

abbrev pub mark_at : List ℕ → Option Mark
mark_at text = find (λ m. starts_with nat_eq text (mark_text m)) marks

-- a token, and what stands behind it; behind a bad one nothing is read
abbrev pub Read : Type 0
Read = Token × List ℕ

abbrev pub bad : Read
bad = (Bad, [])

abbrev pub read_mark : List ℕ → Option Mark → Read
read_mark text (Some m) = (Sign m, drop (length (mark_text m)) text)
read_mark text None = bad

abbrev pub read_sign : List ℕ → Option Op → Read
read_sign text (Some op) = (Operator op, drop (length (op_text op)) text)
read_sign text None = read_mark text (mark_at text)

abbrev pub is_word_byte : ℕ → Bool
is_word_byte b = is_letter b || is_digit b

-- the number that decimal digits write, where they are how it is written: without a leading zero
abbrev pub number_of : List ℕ → Option ℕ
number_of digits = if bytes_eq (decimal (digits_value 10 digits)) digits then Some (digits_value 10 digits) else None

abbrev pub positive : Option ℕ → Token
positive None = Bad
positive (Some n) = if nat_lt n (2 ^ 63) then Number (pos n) else Bad

-- there is no -0
abbrev pub negative : Option ℕ → Token
negative None = Bad
negative (Some n) = if nat_lt 0 n && nat_le n (2 ^ 63) then Number (neg_ℤ (pos n)) else Bad

-- letters, digits and `_`: a number where the first is a digit
abbrev pub run_token : List ℕ → Token
run_token run = if is_digit (slice_index run 0) then positive (number_of run) else Word run

abbrev pub read_token : Token → List ℕ → Read
read_token Bad rest = bad
read_token token rest = (token, rest)

abbrev pub read_run : List ℕ → Read
read_run text = read_token (run_token (take_while is_word_byte text)) (drop (prefix_len is_word_byte text) text)

abbrev pub read_negative : List ℕ → Read
read_negative text =
    read_token (negative (number_of (take_while is_word_byte text))) (drop (prefix_len is_word_byte text) text)

-- what a backslash and this byte stand for
abbrev pub escape : ℕ → Option ℕ
escape b =
    if b == 92 || b == 39 || b == 34 then Some b
    else (if b == 110 then Some 10 else (if b == 116 then Some 9 else None))

abbrev pub is_quote : ℕ → Bool
is_quote b = b == 39 || b == 34

-- no control character but those that escapes write
abbrev pub is_plain_byte : ℕ → Bool
is_plain_byte b = nat_le 0x20 b && not (b == 0x7f)

abbrev pub before : ℕ → Option (List ℕ × List ℕ) → Option (List ℕ × List ℕ)
before b quoted = option_map (λ (q : List ℕ × List ℕ). (b ∷ q.0, q.1)) quoted

-- what stands up to the closing quote, with the escapes read, and what stands behind that quote
unfoldable pub quoted : ℕ → List ℕ → Option (List ℕ × List ℕ)
quoted quote [] = None
quoted quote (b ∷ []) = if b == quote then Some ([], []) else None
quoted quote (b ∷ c ∷ rest) =
    if b == quote then Some ([], c ∷ rest)
    else if b == 92 then option_and_then (λ e. before e (quoted quote rest)) (escape c)
    else if is_plain_byte b then before b (quoted quote (c ∷ rest))
    else None

abbrev pub read_quoted : Profile → Option (List ℕ × List ℕ) → Read
read_quoted profile None = bad
read_quoted profile (Some q) = if is_text_within (text_limit profile) q.0 then (Text q.0, q.1) else bad

-- the token that a byte and what follows it begin with; where numbers may be signed, a `-` right before a digit
-- belongs to the number
unfoldable pub first_token : Profile → Bool → ℕ → List ℕ → Read
first_token profile signed b rest =
    if is_quote b then read_quoted profile (quoted b rest)
    else if is_word_byte b then read_run (b ∷ rest)
    else if signed && b == 45 && is_digit (slice_index rest 0) then read_negative rest
    else read_sign (b ∷ rest) (op_at (b ∷ rest))

abbrev pub without_white : List ℕ → List ℕ
without_white text = drop (prefix_len is_white_space text) text

abbrev pub tokens_step : Profile → Bool → (List ℕ → List Token) → List ℕ → List Token
tokens_step profile signed later [] = []
tokens_step profile signed later (b ∷ rest) =
    (first_token profile signed b rest).0 ∷ later (first_token profile signed b rest).1

-- at most so many tokens, with white space free between them
abbrev pub tokens_up_to : ℕ → Profile → Bool → List ℕ → List Token
tokens_up_to zero profile signed text = []
tokens_up_to (suc most) profile signed text =
    tokens_step profile signed (tokens_up_to most profile signed) (without_white text)

-- a text has no more tokens than bytes
unfoldable pub tokens : Profile → Bool → List ℕ → List Token
tokens profile signed text = tokens_up_to (length text) profile signed text
