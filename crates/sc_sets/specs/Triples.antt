-- What is entered, as rows. This host's own rule.
use Rattle.std.specs.Prelude.{◌≡◌, ℕ}
use Rattle.sc_law.specs.Entry.{EntryTriple}
use Rattle.sc_sets.specs.declared.entry.Entry3.{Entry3}

-- the sets that the rows stand for
abbrev pub triple_of : Entry3 → EntryTriple
triple_of e = record { states = e.states.members; defaults = e.defaults.members; noted = e.noted }

-- both rows have this width
pub record HasWidth (width : ℕ) (e : Entry3) : Type 0 where
  pub states : e.states.width ≡ width
  pub defaults : e.defaults.width ≡ width

-- a step was made
pub record Becomes (width : ℕ) (step : EntryTriple → EntryTriple) (old new : Entry3) : Type 0 where
  pub rows : HasWidth width new
  pub triple : triple_of new ≡ step (triple_of old)
