-- Where the first child element of a tag stands, and what a table keeps of it. Only contracts of private functions
-- cite this.
use Rattle.std.specs.Prelude.{ℕ, ◌≡◌, Bool, ◌&&◌, if◌then◌else◌, IfSome, Option, Some, position}
use Rattle.std.specs.BTreeMap.{get_by}
use Rattle.std.specs.Cmp.Lexicographic.{slice_cmp}
use Rattle.std.specs.Ordering.{nat_cmp}
use Rattle.sc_types.specs.declared.chart.Chart.{Chart}
use Rattle.sc_types.specs.declared.chart.Node.{Node}
use Rattle.sc_types.specs.declared.chart.Tag.{Tag}
use Rattle.sc_law.specs.Nodes.{Path, element, is_same, is_tag, kids, tag_of}
use Rattle.sc_valid.specs.declared.first_kids.FirstKids.{FirstKids}

-- the place of the first child element of a tag
abbrev pub first_kid : Tag → Node → Option ℕ
first_kid t n = position (λ kid. is_tag t (tag_of kid)) (kids n)

-- what the table has for a path
abbrev pub place_of : FirstKids → Path → Option (Option ℕ)
place_of f path = get_by (λ key. slice_cmp nat_cmp path key.items) f.places

-- what the table has is right
abbrev pub AreRight : FirstKids → Tag → Chart → Type 0
AreRight f t c = (path : Path) → IfSome (place_of f path) (λ place. place ≡ first_kid t (element c path))

-- where the element is of the table's kind, its path has this place now
pub record IsKept (old : FirstKids) (is_kind : Bool) (path : Path) (place : Option ℕ) (new : FirstKids) : Type 0 where
  pub finds : (other : Path) → place_of new other
      ≡ (if is_kind && is_same path other then Some place else place_of old other)
