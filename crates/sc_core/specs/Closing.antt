-- The history of a run as contracts see it. This host's own rule.
use Rattle.std.specs.Prelude.{ℕ, List}
use Rattle.sc_types.specs.declared.history.Entry.{Entry}

-- the entries, and for how many more there is room
pub record HistoryOf : Type 0 where
  pub entries : List Entry
  pub spare : ℕ
