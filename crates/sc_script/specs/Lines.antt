-- The lines of a script, and the words of a line. This host's own rule.
use Rattle.std.specs.Prelude.{ℕ, ◌-◌, ◌==◌, Bool, not, nat_eq, if◌then◌else◌, List, [], ◌∷◌, length, take, drop, codes}
use Rattle.std.specs.List.{take_while, prefix_len, ends_with}
use Rattle.sc_types.specs.Descriptors.{grow_first}

-- a line ends at a line feed
abbrev pub is_line_part : ℕ → Bool
is_line_part b = not (b == 10)

-- the lines of a text, without their line feeds; behind the last line feed there is a line only where there are bytes
unfoldable pub lines : List ℕ → List (List ℕ)
lines [] = []
lines (b ∷ rest) = if is_line_part b then grow_first b (lines rest) else [] ∷ lines rest

-- a line without one carriage return at its end
abbrev pub without_return : List ℕ → List ℕ
without_return line = if ends_with nat_eq line (codes "\r") then take (length line - 1) line else line

-- no other white space separates words
abbrev pub is_space : ℕ → Bool
is_space b = b == 32

abbrev pub is_word_part : ℕ → Bool
is_word_part b = not (is_space b)

abbrev pub without_spaces : List ℕ → List ℕ
without_spaces text = drop (prefix_len is_space text) text

-- a byte before a text: a space is dropped where nothing stands behind it
abbrev pub before_last : ℕ → List ℕ → List ℕ
before_last b [] = if is_space b then [] else b ∷ []
before_last b (c ∷ rest) = b ∷ c ∷ rest

unfoldable pub without_last_spaces : List ℕ → List ℕ
without_last_spaces [] = []
without_last_spaces (b ∷ rest) = before_last b (without_last_spaces rest)

-- a text without the spaces round it
abbrev pub trimmed : List ℕ → List ℕ
trimmed text = without_last_spaces (without_spaces text)

-- the word at the front of a text, which is empty where the text is
abbrev pub first_word : List ℕ → List ℕ
first_word text = take_while is_word_part text

-- what stands behind the first word and the spaces there
abbrev pub behind_word : List ℕ → List ℕ
behind_word text = without_spaces (drop (prefix_len is_word_part text) text)
