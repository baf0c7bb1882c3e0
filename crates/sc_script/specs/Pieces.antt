-- How the pieces of `Pairs` are found. Only contracts of private functions and proofs cite this.
use Rattle.std.specs.Prelude.{ℕ, suc, ◌==◌, Bool, not, ◌&&◌, nat_lt, if◌then◌else◌, List, [], ◌∷◌}
use Rattle.sc_script.specs.Pairs.{is_gap, next_place}
use Rattle.sc_script.specs.declared.pieces.Place.{Place}

-- how many bytes stand before the first space between pairs
unfoldable pub piece_len : Place → List ℕ → ℕ
piece_len place [] = 0
piece_len place (b ∷ rest) = if is_gap place b then 0 else suc (piece_len (next_place place b) rest)

-- the bytes `'` and `[`
abbrev apostrophe : ℕ
apostrophe = 39

abbrev open_bracket : ℕ
open_bracket = 91

-- a byte that neither begins nor ends a pair, a text or a list where it stands outside of texts and lists
abbrev pub is_inner : ℕ → Bool
is_inner b = nat_lt apostrophe b && not (b == open_bracket)
