-- Texts of several words. Only contracts of private functions cite this.
use Rattle.std.specs.Prelude.{ℕ, ◌-◌, Bool, not, ◌&&◌, nat_lt, if◌then◌else◌, List, [], ◌∷◌, length, slice_index}
use Rattle.sc_base.specs.Text.{is_word, is_plain_name}
use Rattle.sc_types.specs.Descriptors.{is_white_space}
use Rattle.sc_types.specs.Elements.{is_word_within}
use Rattle.sc_types.specs.declared.attribute.Form.{Form}
use Rattle.sc_types.specs.declared.attribute.Form.TheVariants as form
use Rattle.sc_types.specs.declared.limits.TheConstants.{ID_LIMIT}

-- what a piece adds to a list of pieces
abbrev pub kept : List ℕ → List (List ℕ)
kept piece = if nat_lt 0 (length piece) then piece ∷ [] else []

-- something, with no white space round it
abbrev pub is_tight : List ℕ → Bool
is_tight text =
    nat_lt 0 (length text) && not (is_white_space (slice_index text 0))
    && not (is_white_space (slice_index text (length text - 1)))

-- whether one piece of a text of several has its form
abbrev pub is_piece : Form → List ℕ → Bool
is_piece form.Ids piece = is_word_within ID_LIMIT piece
is_piece form.PlainNames piece = is_plain_name piece
is_piece f piece = is_word piece
