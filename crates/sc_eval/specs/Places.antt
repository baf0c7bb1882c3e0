-- The places of rows that have names. Only contracts of private functions cite what stands below `names_of`.
use Rattle.std.specs.Prelude.{◌≡◌, ◌<◌, length, List, [], ◌∷◌, None, Option, Some, suc, if◌then◌else◌, map, option_map, ℕ}
use Rattle.std.specs.BTreeMap.{get_by}
use Rattle.std.specs.Cmp.Lexicographic.{slice_cmp}
use Rattle.std.specs.Option.{option_or}
use Rattle.std.specs.Ordering.{nat_cmp}
use Rattle.std.specs.Str.{bytes_eq}
use Rattle.sc_eval.specs.declared.index.TheConstants.{FEW_ROWS}
use Rattle.sc_eval.specs.declared.places.Places.{Places}

-- the names of rows
abbrev pub names_of : {A : Type 0} → List (List ℕ × A) → List (List ℕ)
names_of {A} rows = map (λ (row : List ℕ × A). row.0) rows

abbrev pub place_of : Places → List ℕ → Option ℕ
place_of p name = get_by (λ key. slice_cmp nat_cmp name key.items) p.places

-- the place of the first row of a name
abbrev pub first_place : {A : Type 0} → List ℕ → List (List ℕ × A) → Option ℕ
first_place name [] = None
first_place name (row ∷ rows) =
    if bytes_eq row.0 name then Some 0 else option_map (λ place. suc place) (first_place name rows)

-- a name that had no place has this one
pub record IsPut (old : Places) (name : List ℕ) (place : ℕ) (new : Places) : Type 0 where
  pub finds : (other : List ℕ) → place_of new other
      ≡ option_or (place_of old other) (if bytes_eq name other then Some place else None)

-- each name has the place of its first row
pub record IsIndex {A : Type 0} (p : Places) (rows : List (List ℕ × A)) : Type 0 where
  pub finds : (name : List ℕ) → place_of p name ≡ first_place name rows

-- so has each name where there are more than a few rows
abbrev pub IsIndexed : {A : Type 0} → Places → List (List ℕ × A) → Type 0
IsIndexed p rows = FEW_ROWS < length rows → IsIndex p rows
