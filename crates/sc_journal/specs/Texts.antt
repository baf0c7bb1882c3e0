-- The text of a journal. This host's own rule: a header of 20 bytes, the open gate 1 first, then for each body an open
-- gate, its length and its bytes, then a closed gate, which is any byte but 1. What follows that has no meaning.
use Rattle.std.specs.Prelude.{◌≡◌, ◌≢◌, ℕ, zero, suc, ◌+◌, ◌^◌, ◌≤◌, ◌==◌, nat_lt, nat_le, Bool, not, ◌&&◌, ◌||◌, if◌then◌else◌, Option, None, Some, Result, Ok, Err, List, [], ◌∷◌, ◌++◌, length, take, drop, flat_map, All, codes, bytes_eq}
use Rattle.sc_frame.specs.Fields.{number_field, field_number}

-- what a header says besides its mark: the format, and the number of the first entry
pub record HeadOf : Type 0 where
  pub format : ℕ
  pub first : ℕ

abbrev pub mark : List ℕ
mark = codes "SCXHOST"

abbrev pub header : HeadOf → List ℕ
header head = 1 ∷ (mark ++ (number_field 4 head.format ++ number_field 8 head.first))

abbrev pub entry : List ℕ → List ℕ
entry body = 1 ∷ (number_field 4 (length body) ++ body)

-- the open header and the entries of these bodies
abbrev pub front : HeadOf → List (List ℕ) → List ℕ
front head bodies = header head ++ flat_map entry bodies

abbrev pub IsBody : List ℕ → Type 0
IsBody body = (1 ≤ length body) × (length body ≤ 2097152)

-- The format is 1, the first number and that of each entry are from 1 to 2^48, and each body has from 1 to 2,097,152
-- bytes.
pub record IsLegal (head : HeadOf) (bodies : List (List ℕ)) : Type 0 where
  pub format : head.format ≡ 1
  pub some : 1 ≤ head.first
  pub first : head.first ≤ 2 ^ 48
  pub last : head.first + length bodies ≤ 2 ^ 48 + 1
  pub sizes : All IsBody bodies

-- The text holds these bodies: it begins with an open header and, up to its first closed gate, is their text.
pub record Holds (head : HeadOf) (bodies : List (List ℕ)) (text : List ℕ) : Type 0 where
  pub legal : IsLegal head bodies
  pub gate : ℕ
  pub rest : List ℕ
  pub whole : text ≡ front head bodies ++ gate ∷ rest
  pub closed : gate ≢ 1

-- The text holds these bodies, with this one more where the gate behind them is open.
pub record HoldsWith (head : HeadOf) (bodies : List (List ℕ)) (body text : List ℕ) : Type 0 where
  pub legal : IsLegal head (bodies ++ body ∷ [])
  pub gate : ℕ
  pub after : ℕ
  pub rest : List ℕ
  pub whole : text ≡ front head bodies ++ gate ∷ (number_field 4 (length body) ++ (body ++ after ∷ rest))
  pub closed : after ≢ 1

-- for `create`: the open gate, the mark and twelve more bytes, whatever they are
abbrev pub has_open_header : List ℕ → Bool
has_open_header text = nat_le 20 (length text) && bytes_eq (take 8 text) (1 ∷ mark)

-- whether a body of so many bytes, its length in front of it and the gate behind it, lies within so many bytes
abbrev pub is_size : ℕ → ℕ → Bool
is_size size room = nat_le 1 size && (nat_le size 2097152 && nat_lt (4 + size) room)

-- The body of an entry, from the bytes behind its gate: none where its number is too great, its length out of range,
-- or its length, its body or the gate behind it not within the text.
abbrev pub body_at : ℕ → List ℕ → Option (List ℕ)
body_at number rest =
    let size = field_number 4 rest in
    if nat_le number (2 ^ 48) && (nat_le 4 (length rest) && is_size size (length rest))
    then Some (take size (drop 4 rest)) else None

abbrev pub joined : List ℕ → Result (List (List ℕ)) ℕ → Result (List (List ℕ)) ℕ
joined body (Ok bodies) = Ok (body ∷ bodies)
joined body (Err place) = Err place

abbrev pub with_body : Option (List ℕ) → ℕ → (List ℕ → Result (List (List ℕ)) ℕ) → Result (List (List ℕ)) ℕ
with_body None at next = Err at
with_body (Some body) at next = joined body (next body)

-- The bodies of the entries up to the first closed gate, from the place where the text stands, the first of them with
-- this number; or the place of the first entry that is damaged. An entry has six bytes at least, so that the length
-- of the text is enough steps.
abbrev pub entries_from : ℕ → ℕ → ℕ → List ℕ → Result (List (List ℕ)) ℕ
entries_from zero number at text = Err at
entries_from (suc steps) number at [] = Err at
entries_from (suc steps) number at (gate ∷ rest) = if gate == 1
    then with_body (body_at number rest) at
    (λ body. entries_from steps (number + 1) (at + 5 + length body) (drop (4 + length body) rest))
    else Ok []

-- the first number that the header says, or the first case of damage that applies
abbrev pub first_number : List ℕ → Result ℕ ℕ
first_number text =
    let first = field_number 8 (drop 12 text) in
    if nat_lt (length text) 21 || not (bytes_eq (take 1 text) (1 ∷ [])) then Err 0
    else (if not (bytes_eq (take 7 (drop 1 text)) mark) then Err 1
    else (if not (field_number 4 (drop 8 text) == 1) then Err 8
    else (if nat_lt first 1 || nat_lt (2 ^ 48) first then Err 12 else Ok first)))

abbrev pub held_from : List ℕ → Result ℕ ℕ → Result (List (List ℕ)) ℕ
held_from text (Err place) = Err place
held_from text (Ok first) = entries_from (length text) first 20 (drop 20 text)

-- the bodies that a text holds, or where it is damaged
abbrev pub held : List ℕ → Result (List (List ℕ)) ℕ
held text = held_from text (first_number text)
