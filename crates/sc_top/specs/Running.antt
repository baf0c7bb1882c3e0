-- A run under way: the book, and the steps that are left. Only private clauses cite these definitions.
use Rattle.std.specs.Prelude.{ℕ, ◌≡◌, ◌≢◌, ◌≤◌, ◌⊎◌, true, Option, None, Some, List, [], ◌∷◌, ◌++◌}
use Rattle.std.proofs.Common.{zero, suc}
use Rattle.sc_types.specs.declared.command.Command.{Command}
use Rattle.sc_types.specs.declared.history.Entry.{Entry}
use Rattle.sc_types.specs.declared.history.Who.{Who}
use Rattle.sc_types.specs.declared.host.HostImage.{HostImage}
use Rattle.sc_dev.specs.Causes.{Rose}
use Rattle.sc_dev.specs.Disks.{DiskLaw, DiskOf}
use Rattle.sc_book.specs.Books.{BookOf, IsBook}
use Rattle.sc_book.specs.Receipts.{HasNoRoom}
use Rattle.sc_book.specs.declared.doubt.Doubt.{Doubt}
use Rattle.sc_book.specs.declared.fault.CallFault.{CallFault}
use Rattle.sc_book.specs.declared.fault.CallFault.TheVariants.{Disk, Full, NoMemory}
use Rattle.sc_machine.specs.Accepted.{is_accepted}
use Rattle.sc_machine.specs.Commands.{answer}
use Rattle.sc_machine.specs.Histories.{replay}
use Rattle.sc_pool.specs.Books.{seen_of}
use Rattle.sc_pool.specs.Pools.{Ran}
use Rattle.sc_script.specs.declared.script.Script.{Script}
use Rattle.sc_top.specs.Run.{Made, in_turn, of_script, next, Enters, IsRun}

pub record RunOf (D : Type 0) : Type 0 where
  pub book : BookOf D
  pub left : ℕ

abbrev pub run_of : {D : Type 0} → BookOf D → ℕ → RunOf D
run_of book left = record { book = book; left = left }

-- what each call keeps
pub record GoesOn {D : Type 0} (law : DiskLaw D) (old new : BookOf D) : Type 0 where
  pub kept : (past : List Command) → IsBook law past old → IsBook law past new
  pub opened : new.opened ≡ old.opened
  pub later : law.faults old.journal.disk ≤ law.faults new.journal.disk
  pub same : law.identity new.journal.disk ≡ law.identity old.journal.disk

-- one entry was added, and no call of the disk failed
pub record Makes {D : Type 0} (law : DiskLaw D) (old new : RunOf D) (who : Who) (c : Command) : Type 0 where
  pub entry : Entry
  pub enters : Enters old.book.host who c entry
  pub history : new.book.history ≡ old.book.history ++ entry ∷ []
  pub host : new.book.host ≡ (answer old.book.host entry.command).host
  pub doubts : new.book.doubts ≡ old.book.doubts
  pub faults : law.faults new.book.journal.disk ≡ law.faults old.book.journal.disk
  pub left : new.left ≡ old.left

-- Entries were added, and no call of the disk failed; whatever goes on from there as a run of the commands `after` goes on from the start as a run
-- of the commands `before`.
pub record Goes {D : Type 0} (law : DiskLaw D) (old new : RunOf D) (before after : List Made) : Type 0 where
  pub added : List Entry
  pub history : new.book.history ≡ old.book.history ++ added
  pub host : new.book.host ≡ replay old.book.host added
  pub doubts : new.book.doubts ≡ old.book.doubts
  pub faults : law.faults new.book.journal.disk ≡ law.faults old.book.journal.disk
  pub runs : (rest : List Entry) → IsRun new.book.host after new.left rest
      → IsRun old.book.host before old.left (added ++ rest)

-- neither a session nor a budget is left to step with: the script goes on
abbrev pub HasStepped : {D : Type 0} → RunOf D → Type 0
HasStepped r = (cs : List Made) → next r.book.host cs r.left ≡ of_script cs

-- the command that was left in doubt
pub record IsDoubtOf {D : Type 0} (old new : BookOf D) (c : Command) : Type 0 where
  pub doubt : Doubt
  pub doubts : new.doubts ≡ old.doubts ++ doubt ∷ []
  pub command : doubt.command ≡ c
  pub accepted : is_accepted (answer new.host c).reply ≡ true

-- A book with this history and host, which went on from the first one, has no room for the command.
pub record HadNoRoom {D : Type 0} (law : DiskLaw D) (old new : BookOf D) (c : Command) : Type 0 where
  pub book : BookOf D
  pub kept : (past : List Command) → IsBook law past old → IsBook law past book
  pub history : book.history ≡ new.history
  pub host : book.host ≡ new.host
  pub no_room : HasNoRoom c book

-- why a command was not answered
abbrev pub IsWhy : {D : Type 0} → DiskLaw D → CallFault → BookOf D → BookOf D → Command → Type 0
IsWhy law Disk old new c =
    Rose (law.faults old.journal.disk) (law.faults new.journal.disk) × ((new.doubts ≡ old.doubts) ⊎ IsDoubtOf old new c)
IsWhy law Full old new c =
    (new.doubts ≡ old.doubts) × HadNoRoom law old new c
IsWhy law NoMemory old new c = new.doubts ≡ old.doubts

-- no entry was added
pub record IsUnmade {D : Type 0} (law : DiskLaw D) (fault : CallFault) (old new : RunOf D)
    (c : Command) : Type 0 where
  pub history : new.book.history ≡ old.book.history
  pub host : new.book.host ≡ old.book.host
  pub why : IsWhy law fault old.book new.book c
  pub faults : fault ≢ Disk → law.faults new.book.journal.disk ≡ law.faults old.book.journal.disk

-- The run reached this host by these entries, and may go on from there.
pub record Reaches {D : Type 0} (old : RunOf D) (before : List Made) (added : List Entry) (g : HostImage) : Type 0 where
  pub commands : List Made
  pub steps : ℕ
  pub runs : (rest : List Entry) → IsRun g commands steps rest → IsRun old.book.host before old.left (added ++ rest)

-- the entry of the command that comes next
pub record Faces {D : Type 0} (old new : RunOf D) (before : List Made) (added : List Entry) : Type 0 where
  pub entry : Entry
  pub reaches : Reaches old before (added ++ entry ∷ []) (answer new.book.host entry.command).host

-- why a run stopped: the command that came next was not answered, or memory was wanting
pub data Stopped {D : Type 0} (law : DiskLaw D) (old new : RunOf D) (before : List Made)
    (added : List Entry) : CallFault → Type 0 where
  unanswered : (fault : CallFault) (next : Faces old new before added)
      → IsWhy law fault old.book new.book next.entry.command
      → Stopped law old new before added fault
  no_memory : new.book.doubts ≡ old.book.doubts → Stopped law old new before added NoMemory

-- entries were added, and then the run stopped
pub record Stops {D : Type 0} (law : DiskLaw D) (fault : CallFault) (old new : RunOf D)
    (before : List Made) : Type 0 where
  pub added : List Entry
  pub history : new.book.history ≡ old.book.history ++ added
  pub host : new.book.host ≡ replay old.book.host added
  pub reaches : Reaches old before added new.book.host
  pub why : Stopped law old new before added fault
  pub faults : fault ≢ Disk → law.faults new.book.journal.disk ≡ law.faults old.book.journal.disk

-- how the run of the commands ended, by its fault where there was one
abbrev pub HowEnded : {D : Type 0} → DiskLaw D → RunOf D → RunOf D → List Made → Option CallFault → Type 0
HowEnded law old new all None = Goes law old new all [] × HasStepped new
HowEnded law old new all (Some fault) =
    Stops law fault old new all

-- how a run of a script with so many workers went: alone, or as the jobs of a pool leave it
abbrev pub HowRan : {D : Type 0} → DiskLaw D → BookOf D → BookOf D → Script → ℕ → ℕ → Option CallFault → Type 0
HowRan law old new s zero budget fault =
    (left : ℕ) × HowEnded law (run_of old budget) (run_of new left)
    (in_turn s) fault
HowRan law old new s (suc more) budget fault =
    Ran s budget (seen_of law old)
    (seen_of law new) fault

-- A run that began with this book has ended, and left this host, this count of commands at the opening, this history
-- and this disk.
pub record HasEnded {D : Type 0} (law : DiskLaw D) (old : BookOf D) (s : Script)
    (workers budget : ℕ) (g : HostImage) (n : ℕ) (entries : List Entry) (left : D)
    (fault : Option CallFault) : Type 0 where
  pub book : BookOf D
  pub goes_on : GoesOn law old book
  pub how : HowRan law old book s workers budget fault
  pub host : book.host ≡ g
  pub opened : book.opened ≡ n
  pub history : book.history ≡ entries
  pub disk : book.journal.disk ≡ left
