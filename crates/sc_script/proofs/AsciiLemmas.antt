-- Texts whose bytes are all ASCII, and their parts.
use Rattle.std.proofs.Common.{◌≡◌, ℕ, true, List}
use Rattle.std.proofs.lemmas.Str.{IsAscii-take, IsAscii-drop, IsUtf8-from_ascii, is_utf8-from_IsUtf8}
use Rattle.std.proofs.lemmas.Str.Ascii.{IsAscii-nil, IsAscii-more}
use Rattle.std.specs.Str.{IsAscii, is_utf8}

-- what stands in front of and behind a place
pub ruleset parts = (IsAscii-take, IsAscii-drop, IsAscii-nil)

-- one byte more
pub ruleset steps = (IsAscii-nil, IsAscii-more)

-- ASCII is UTF-8
pub ascii_utf8 : (text : List ℕ) → IsAscii text → is_utf8 text ≡ true
ascii_utf8 text h = is_utf8-from_IsUtf8 text (IsUtf8-from_ascii text h)
