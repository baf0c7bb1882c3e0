-- Event descriptors. SCXML 3.12.1.
use Rattle.std.specs.Prelude.{ℕ, ◌==◌, ◌||◌, ◌-◌, Bool, if◌then◌else◌, nat_eq, nat_lt, List, [], ◌∷◌, length, take, filter, codes}
use Rattle.std.specs.List.{list_any, starts_with, ends_with}
use Rattle.std.specs.Str.{bytes_eq}

abbrev pub is_white_space : ℕ → Bool
is_white_space b = b == 0x20 || b == 0x09 || b == 0x0a || b == 0x0d

abbrev pub is_dot : ℕ → Bool
is_dot b = b == 46

-- b goes to the front of the first piece
abbrev pub grow_first : ℕ → List (List ℕ) → List (List ℕ)
grow_first b [] = (b ∷ []) ∷ []
grow_first b (piece ∷ rest) = (b ∷ piece) ∷ rest

-- what stands before, between and after the bytes that pass the test, the empty pieces too
abbrev pub split_at : (ℕ → Bool) → List ℕ → List (List ℕ)
split_at test [] = [] ∷ []
split_at test (b ∷ bs) = if test b then [] ∷ split_at test bs else grow_first b (split_at test bs)

-- the tokens of an event's name or of a descriptor: `a.b.c` has three
abbrev pub tokens : List ℕ → List (List ℕ)
tokens text = split_at is_dot text

-- a descriptor without one trailing `.*`, else without one trailing `.` (SCXML 3.12.1; that a second one
-- stays is this host's own rule)
abbrev pub dropped : List ℕ → List ℕ
dropped piece = if ends_with nat_eq piece (codes ".*") then take (length piece - 2) piece
    else (if ends_with nat_eq piece (codes ".") then take (length piece - 1) piece else piece)

-- whether a descriptor matches the name of an event: it is `*`, or its tokens are the first tokens of the name
unfoldable pub piece_matches : List ℕ → List ℕ → Bool
piece_matches piece name = bytes_eq piece (codes "*") || starts_with bytes_eq (tokens name) (tokens (dropped piece))

abbrev pub any_matches : List (List ℕ) → List ℕ → Bool
any_matches pieces name = list_any (λ piece. piece_matches piece name) pieces

-- the descriptors of a text: its pieces between white space
abbrev pub pieces : List ℕ → List (List ℕ)
pieces text = filter (λ piece. nat_lt 0 (length piece)) (split_at is_white_space text)

-- whether one of the descriptors of a text matches the name
abbrev pub matches : List ℕ → List ℕ → Bool
matches text name = any_matches (pieces text) name
