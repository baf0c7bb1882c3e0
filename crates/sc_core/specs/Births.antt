-- Sessions that are born in the step under way, before anything changes. This host's own rule; only private clauses
-- cite these definitions.
use Rattle.std.specs.Prelude.{ℕ, ◌+◌, ◌≡◌, ◌++◌, Option, option_map, List, [], ◌∷◌, find, length, map}
use Rattle.std.specs.Str.{bytes_eq}
use Rattle.sc_types.specs.declared.host.HostImage.{HostImage}
use Rattle.sc_types.specs.declared.host.SessionImage.{SessionImage}
use Rattle.sc_types.specs.declared.session.Phase.{Phase}
use Rattle.sc_types.specs.declared.session.Phase.TheVariants.{Fresh}
use Rattle.sc_core.specs.declared.draft.Placed.{Placed}

-- what decides whether a session takes events
pub record Sight : Type 0 where
  pub name : List ℕ
  pub phase : Phase

abbrev pub sight : SessionImage → Sight
sight s = record { name = s.state.session; phase = s.state.phase }

abbrev pub sights : HostImage → List Sight
sights g = map sight g.sessions

-- the place of the one of a name
abbrev pub birth_place : List Placed → List ℕ → Option ℕ
birth_place births name = option_map (λ (b : Placed). b.place) (find (λ (b : Placed). bytes_eq b.name name) births)

-- their places follow one another
abbrev pub AreFrom : ℕ → List Placed → Type 0
AreFrom from [] = Unit {0}
AreFrom from (b ∷ bs) = (b.place ≡ from) × AreFrom (from + 1) bs

abbrev pub born_sight : Placed → Sight
born_sight b = record { name = b.name; phase = Fresh }

-- a host machine with these sessions more
pub record IsGrown (g : HostImage) (births : List Placed) (h : HostImage) : Type 0 where
  pub sights : sights h ≡ sights g ++ map born_sight births
  pub places : AreFrom (length g.sessions) births
