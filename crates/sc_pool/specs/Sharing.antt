-- What jobs see of a host that they share, and what each of their calls does. This host's own rule.
use Rattle.std.specs.Prelude.{ℕ, ◌≡◌, ◌≢◌, ◌≤◌, ◌⊎◌, ◌++◌, Bool, true, false, List, [], ◌∷◌, length}
use Rattle.sc_book.specs.Books.{opening}
use Rattle.sc_book.specs.declared.doubt.Doubt.{Doubt}
use Rattle.sc_book.specs.declared.fault.CallFault.{CallFault}
use Rattle.sc_book.specs.declared.fault.CallFault.TheVariants.{Disk, Full, NoMemory}
use Rattle.sc_dev.specs.Causes.{Rose}
use Rattle.sc_types.specs.declared.command.Command.{Command}
use Rattle.sc_types.specs.declared.command.Command.TheVariants.{Step}
use Rattle.sc_types.specs.declared.history.Entry.{Entry}
use Rattle.sc_types.specs.declared.history.Who.{Who}
use Rattle.sc_types.specs.declared.history.Who.TheVariants.{Worker}
use Rattle.sc_machine.specs.Accepted.{is_accepted, is_accepted_step}
use Rattle.sc_machine.specs.Commands.{answer}
use Rattle.sc_machine.specs.Histories.{replay}

-- What is seen of a host: how many commands its journal held at the opening, its history and the commands in doubt,
-- whether a session is ready, how often its disk has failed, which disk it is, whether the journal lacks room for some
-- command, and whether it goes on from the host that some commands left at its opening.
pub record Seen : Type 1 where
  pub opened : ℕ
  pub entries : List Entry
  pub doubts : List Doubt
  pub ready : Bool
  pub faults : ℕ
  pub identity : ℕ
  pub tight : Type 0
  pub stands : List Command → Type 0

-- what each call keeps
pub record GoesOn (old new : Seen) : Type 0 where
  pub opened : new.opened ≡ old.opened
  pub later : old.faults ≤ new.faults
  pub same : new.identity ≡ old.identity
  pub tight : old.tight → new.tight
  pub kept : (past : List Command) → old.stands past → new.stands past

-- no call of the disk failed, and no command is in doubt that was not before
pub record IsCalm (old new : Seen) : Type 0 where
  pub doubts : new.doubts ≡ old.doubts
  pub faults : new.faults ≡ old.faults

-- ---- for private clauses: what each call does

-- no entry was added
pub record IsSame (old new : Seen) : Type 0 where
  pub entries : new.entries ≡ old.entries
  pub calm : IsCalm old new

-- one entry was added, that of this caller and command
pub record Adds (who : Who) (c : Command) (old new : Seen) : Type 0 where
  pub entry : Entry
  pub entries : new.entries ≡ old.entries ++ entry ∷ []
  pub by : entry.who ≡ who
  pub command : entry.command ≡ c
  pub calm : IsCalm old new

-- one entry was added, an accepted step of a worker
pub record AddsStep (old new : Seen) : Type 0 where
  pub entry : Entry
  pub entries : new.entries ≡ old.entries ++ entry ∷ []
  pub by : entry.who ≡ Worker
  pub accepted : is_accepted_step entry.command entry.reply ≡ true
  pub calm : IsCalm old new

-- the command is kept as one that a fault of the disk left in doubt, and the host accepted it
pub record IsDoubted (who : Who) (c : Command) (old new : Seen) : Type 0 where
  pub doubt : Doubt
  pub doubts : new.doubts ≡ old.doubts ++ doubt ∷ []
  pub by : doubt.who ≡ who
  pub command : doubt.command ≡ c
  pub before : doubt.before ≡ length old.entries
  pub accepted : (past : List Command) → old.stands past
      → is_accepted (answer (replay (opening past) old.entries) c).reply ≡ true

-- why a command was not answered, and whether it is in doubt
abbrev pub IsWhy : Who → Command → CallFault → Seen → Seen → Type 0
IsWhy who c Disk old new = Rose old.faults new.faults × ((new.doubts ≡ old.doubts) ⊎ IsDoubted who c old new)
IsWhy who c Full old new = new.tight × (new.doubts ≡ old.doubts)
IsWhy who c NoMemory old new = new.doubts ≡ old.doubts

-- no entry was added, by this fault; the disk failed only where it is the disk's
pub record Fails (who : Who) (c : Command) (fault : CallFault) (old new : Seen) : Type 0 where
  pub entries : new.entries ≡ old.entries
  pub why : IsWhy who c fault old new
  pub faults : fault ≢ Disk → new.faults ≡ old.faults

-- the same of a worker's step
pub record FailsToStep (fault : CallFault) (old new : Seen) : Type 0 where
  pub session : List ℕ
  pub fails : Fails Worker (Step session) fault old new

-- a step was made, or there was none to make and nothing changed
abbrev pub Steps : Bool → Seen → Seen → Type 0
Steps true old new = AddsStep old new
Steps false old new = IsSame old new
