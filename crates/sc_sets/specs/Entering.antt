-- For proofs: what an entry goes by.
use Rattle.std.specs.Prelude.{ℕ}
use Rattle.sc_law.specs.Entry.{EntryTriple, Enters, down}
use Rattle.sc_law.specs.Tree.{state_count}
use Rattle.sc_sets.specs.Triples.{Becomes, HasWidth}
use Rattle.sc_sets.specs.declared.entering.Entering.{Entering}
use Rattle.sc_sets.specs.declared.entry.Entry3.{Entry3}

-- how a state is entered, with so many levels below it
abbrev pub enters : Entering → ℕ → Enters
enters k levels = down k.tables.now k.histories.now k.bound levels

-- the rows have a place for each state
abbrev pub Fits : Entering → Entry3 → Type 0
Fits k e = HasWidth (state_count k.tables.now) e

-- a step was made
abbrev pub Made : Entering → (EntryTriple → EntryTriple) → Entry3 → Entry3 → Type 0
Made k step old new = Becomes (state_count k.tables.now) step old new
