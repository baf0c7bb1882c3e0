-- The forms of names, texts and numbers. This host's own rule; SCXML leaves them to the data model.
use Rattle.std.specs.Prelude.{ℕ, ℤ, pos, negsuc, ◌^◌, ◌<◌, ◌≤◌, ◌==◌, Bool, false, not, ◌&&◌, ◌||◌, nat_lt, nat_le, List, [], ◌∷◌, length, IsTrue, codes}
use Rattle.std.specs.List.{list_all}
use Rattle.std.specs.Str.{IsUtf8, is_utf8, bytes_eq}
use Rattle.sc_base.specs.declared.text.TheConstants.{TEXT_LIMIT, PLAIN_NAME_LIMIT}

-- above the space, and none of DEL " ' \
abbrev pub is_name_byte : ℕ → Bool
is_name_byte b = nat_lt 0x20 b && not (b == 0x7f || b == 34 || b == 39 || b == 92)

pub record IsName (text : List ℕ) : Type 0 where
  pub utf8 : IsUtf8 text
  pub some : 0 < length text
  pub each : IsTrue (list_all is_name_byte text)

-- a name without `#`
pub record IsWord (text : List ℕ) : Type 0 where
  pub name : IsName text
  pub no_hash : IsTrue (list_all (λ b. not (b == 35)) text)

-- `IsName` and `IsWord` as tests
abbrev pub is_name : List ℕ → Bool
is_name text = nat_lt 0 (length text) && list_all is_name_byte text && is_utf8 text

abbrev pub is_word : List ℕ → Bool
is_word text = is_name text && list_all (λ b. not (b == 35)) text

abbrev pub is_letter : ℕ → Bool
is_letter b = (nat_le 65 b && nat_le b 90) || (nat_le 97 b && nat_le b 122) || b == 95

abbrev pub is_digit : ℕ → Bool
is_digit b = nat_le 48 b && nat_le b 57

-- the words of the expression language, which name no datum
abbrev pub is_keyword : List ℕ → Bool
is_keyword text = bytes_eq text (codes "true") || bytes_eq text (codes "false") || bytes_eq text (codes "In")
    || bytes_eq text (codes "len") || bytes_eq text (codes "text")

abbrev pub starts_with_letter : List ℕ → Bool
starts_with_letter [] = false
starts_with_letter (b ∷ bs) = is_letter b

pub record IsPlainName (text : List ℕ) : Type 0 where
  pub short : length text ≤ PLAIN_NAME_LIMIT
  pub first : IsTrue (starts_with_letter text)
  pub each : IsTrue (list_all (λ b. is_letter b || is_digit b) text)
  pub no_keyword : IsTrue (not (is_keyword text))

-- `IsPlainName` as a test
abbrev pub is_plain_name : List ℕ → Bool
is_plain_name text =
    nat_le (length text) PLAIN_NAME_LIMIT && starts_with_letter text && list_all (λ b. is_letter b || is_digit b) text
    && not (is_keyword text)

-- line feed and tab are the control characters of a text
abbrev pub is_text_byte : ℕ → Bool
is_text_byte b = (nat_le 0x20 b || b == 10 || b == 9) && not (b == 0x7f)

-- what a text of at most so many bytes may hold
abbrev pub is_text_within : ℕ → List ℕ → Bool
is_text_within most text = nat_le (length text) most && is_utf8 text && list_all is_text_byte text

-- what a text of the data model may hold
abbrev pub is_text : List ℕ → Bool
is_text text = is_text_within TEXT_LIMIT text

-- what 64 bits hold
abbrev pub is_int : ℤ → Bool
is_int (pos n) = nat_lt n (2 ^ 63)
is_int (negsuc n) = nat_lt n (2 ^ 63)
