-- That the pairs of a line `post` are cut in one way. This host's own rule.
use Rattle.std.specs.Prelude.{◌≡◌, ℕ, ◌<◌, false, List, [], ◌∷◌, ◌++◌, length}
use Rattle.std.specs.List.{AllByRecursion}
use Rattle.sc_script.specs.Pairs.{is_gap, next_place, start, pieces}
use Rattle.sc_script.specs.declared.pieces.Place.{Place}

-- no space cuts a text here, and what stands behind it stands neither in a text nor in a list
abbrev pub IsUncut : Place → List ℕ → Type 0
IsUncut place [] = place ≡ start
IsUncut place (b ∷ rest) = (is_gap place b ≡ false) × IsUncut (next_place place b) rest

-- what may stand between the spaces that separate pairs: `x=1`, `x='a b'` and `x=[1, 2]` may, `x=1 y=2` and `x='a` not
abbrev pub IsWhole : List ℕ → Type 0
IsWhole text = (0 < length text) × IsUncut start text

-- texts with a space between
abbrev pub spaced : List (List ℕ) → List ℕ
spaced [] = []
spaced (text ∷ []) = text
spaced (text ∷ other ∷ texts) = text ++ 32 ∷ spaced (other ∷ texts)

-- whole texts with a space between are cut into just these texts
unfoldable pub IsCutInOneWay : Type 0
IsCutInOneWay = (texts : List (List ℕ)) → AllByRecursion IsWhole texts → pieces start (spaced texts) ≡ texts
