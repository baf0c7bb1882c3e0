-- How a book keeps what it holds. Only private clauses cite these definitions.
use Rattle.std.specs.Prelude.{ℕ, ◌<◌, ◌≡◌, ◌++◌, ◌∷◌, [], length}
use Rattle.sc_book.specs.Books.{BookOf}
use Rattle.sc_book.specs.declared.doubt.Doubt.{Doubt}
use Rattle.sc_book.specs.declared.fault.CallFault.{CallFault}
use Rattle.sc_book.specs.declared.fault.CallFault.TheVariants.{Disk}
use Rattle.sc_book.specs.declared.log.Log.{Log}
use Rattle.sc_core.specs.HostStates.{HostOf}
use Rattle.sc_journal.specs.Journals.{JournalOf}
use Rattle.sc_rooms.specs.Rooms.{PlacesOf}
use Rattle.sc_types.specs.declared.command.Command.{Command}
use Rattle.sc_types.specs.declared.history.Who.{Who}

abbrev pub book_of : {D : Type 0} → HostOf → ℕ → ℕ → Log → PlacesOf → JournalOf D → BookOf D
book_of host opened start log claims journal = record {
  host = host.image;
  opened = opened;
  history = log.history.entries;
  start = start;
  moments = log.moments.items;
  doubts = log.doubts.items;
  claims = claims.places;
  journal = journal;
}

-- the same entries, moments and doubts
pub record IsSameLog (old new : Log) : Type 0 where
  pub history : new.history.entries ≡ old.history.entries
  pub moments : new.moments.items ≡ old.moments.items
  pub doubts : new.doubts.items ≡ old.doubts.items

-- room for one entry, its moment and one doubt
pub record HasRoom (log : Log) : Type 0 where
  pub history : 0 < log.history.spare
  pub moments : 0 < log.moments.spare
  pub doubts : 0 < log.doubts.spare

-- the command is kept as one in doubt
pub record KeepsDoubt (by : Who) (c : Command) (old new : Log) : Type 0 where
  pub doubt : Doubt
  pub doubts : new.doubts.items ≡ old.doubts.items ++ doubt ∷ []
  pub who : doubt.who ≡ by
  pub command : doubt.command ≡ c
  pub before : doubt.before ≡ length old.history.entries

-- it is where the disk failed
abbrev pub StoreDoubts : Who → Command → Log → Log → CallFault → Type 0
StoreDoubts who c old new Disk = KeepsDoubt who c old new
StoreDoubts who c old new fault = new.doubts.items ≡ old.doubts.items
