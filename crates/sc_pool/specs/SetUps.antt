-- What the set-up of a script does. Only private clauses cite these definitions.
use Rattle.std.specs.Prelude.{◌≡◌, IsTrue, List, ◌∷◌, ◌++◌, map}
use Rattle.std.specs.List.{list_all}
use Rattle.sc_book.specs.declared.fault.CallFault.{CallFault}
use Rattle.sc_types.specs.declared.command.Command.{Command}
use Rattle.sc_types.specs.declared.history.Entry.{Entry}
use Rattle.sc_types.specs.declared.history.Who.TheVariants.{Client}
use Rattle.sc_pool.specs.Serving.{is_setup}
use Rattle.sc_pool.specs.Sharing.{Fails, GoesOn, IsCalm, Seen}

abbrev pub commands_in : List Entry → List Command
commands_in entries = map (λ (e : Entry). e.command) entries

-- these entries were added, all of client 0
pub record IsSetUpBy (fresh : List Entry) (old new : Seen) : Type 0 where
  pub entries : new.entries ≡ old.entries ++ fresh
  pub by : IsTrue (list_all is_setup fresh)
  pub calm : IsCalm old new
  pub goes_on : GoesOn old new

-- the first commands were made, and these are left
pub record MakesPart (commands left : List Command) (old new : Seen) : Type 0 where
  pub fresh : List Entry
  pub whole : commands ≡ commands_in fresh ++ left
  pub makes : IsSetUpBy fresh old new

-- with these entries more
abbrev pub with_entries : Seen → List Entry → Seen
with_entries seen fresh = record seen { entries = seen.entries ++ fresh }

-- the first commands were made, and the next one met a fault
pub record FailsIn (commands : List Command) (fault : CallFault) (old new : Seen) : Type 0 where
  pub fresh : List Entry
  pub next : Command
  pub rest : List Command
  pub whole : commands ≡ commands_in fresh ++ next ∷ rest
  pub by : IsTrue (list_all is_setup fresh)
  pub fails : Fails (Client 0) next fault (with_entries old fresh) new
  pub goes_on : GoesOn old new
