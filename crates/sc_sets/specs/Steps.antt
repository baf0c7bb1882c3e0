-- The steps of going upward. Only contracts of private functions cite this.
use Rattle.std.specs.Prelude.{ℕ, if◌then◌else◌}
use Rattle.sc_types.specs.declared.chart.Chart.{Chart}
use Rattle.sc_law.specs.Entry.{EntryTriple, Enters, through}
use Rattle.sc_law.specs.Tree.{is_below}

-- an ancestor is entered where it is below the limit
abbrev pub passed : Chart → Enters → ℕ → ℕ → EntryTriple → EntryTriple
passed c enters limit a e = (if is_below c a limit then through c enters a else (λ same. same)) e
