-- The pairs of a line `post`. This host's own rule.
use Rattle.std.specs.Prelude.{ℕ, ◌+◌, ◌==◌, Bool, true, false, not, ◌&&◌, ◌||◌, if◌then◌else◌, Option, Some, None, option_map, option_and_then, List, [], ◌∷◌, take, drop}
use Rattle.std.specs.List.{position}
use Rattle.sc_base.specs.Text.{is_plain_name}
use Rattle.sc_types.specs.Descriptors.{grow_first}
use Rattle.sc_types.specs.Tokens.{is_quote}
use Rattle.sc_types.specs.Values.{fits_flat, literal_value}
use Rattle.sc_types.specs.declared.value.Value.{Value}
use Rattle.sc_script.specs.declared.pieces.Place.{Place}
use Rattle.sc_script.specs.declared.pieces.Quote.{Quote}
use Rattle.sc_script.specs.declared.pieces.Quote.TheVariants.{Outside, Within, Escaped}

-- a quotation mark opens a text, and the same mark closes it, unless a backslash stands before it
abbrev pub next_quote : Quote → ℕ → Quote
next_quote Outside b = if is_quote b then Within b else Outside
next_quote (Within mark) b = if b == mark then Outside else if b == 92 then Escaped mark else Within mark
next_quote (Escaped mark) b = Within mark

-- brackets within a text do not count
abbrev pub next_in_list : Quote → Bool → ℕ → Bool
next_in_list Outside in_list b = b == 91 || (in_list && not (b == 93))
next_in_list quote in_list b = in_list

-- where the byte behind this one stands
abbrev pub next_place : Place → ℕ → Place
next_place place b = record { quote = next_quote place.quote b; in_list = next_in_list place.quote place.in_list b }

abbrev pub is_outside : Quote → Bool
is_outside Outside = true
is_outside quote = false

-- pairs end at a space that stands neither in a text nor in a list
abbrev pub is_gap : Place → ℕ → Bool
is_gap place b = b == 32 && is_outside place.quote && not place.in_list

abbrev pub start : Place
start = record { quote = Outside; in_list = false }

-- what stands between such spaces, the empty pieces too
unfoldable pub pieces : Place → List ℕ → List (List ℕ)
pieces place [] = []
pieces place (b ∷ rest) =
    if is_gap place b then [] ∷ pieces start rest else grow_first b (pieces (next_place place b) rest)

abbrev pub Pair : Type 0
Pair = List ℕ × Value

abbrev pub named : List ℕ → Option Value → Option Pair
named name value = if is_plain_name name then option_map (λ v. (name, v)) value else None

abbrev pub flat : Value → Option Value
flat v = if fits_flat v then Some v else None

-- the value of a pair: a flat one, since no other is kept in a journal
abbrev pub posted_value : List ℕ → Option Value
posted_value text = option_and_then flat (literal_value text)

abbrev pub pair_at : List ℕ → Option ℕ → Option Pair
pair_at text None = None
pair_at text (Some place) = named (take place text) (posted_value (drop (place + 1) text))

-- `NAME=VALUE`: a plain name, and the literal of a value behind the first `=`
abbrev pub pair_of : List ℕ → Option Pair
pair_of text = pair_at text (position (λ b. b == 61) text)

abbrev pub add_pair : Option Pair → Option (List Pair) → Option (List Pair)
add_pair pair pairs = option_and_then (λ p. option_map (λ ps. p ∷ ps) pairs) pair

-- the pairs of these pieces, of which the empty ones say nothing
abbrev pub pairs_in : List (List ℕ) → Option (List Pair)
pairs_in [] = Some []
pairs_in ([] ∷ more) = pairs_in more
pairs_in ((b ∷ rest) ∷ more) = add_pair (pair_of (b ∷ rest)) (pairs_in more)

-- the pairs that a text lists
abbrev pub pairs_of : List ℕ → Option (List Pair)
pairs_of text = pairs_in (pieces start text)
