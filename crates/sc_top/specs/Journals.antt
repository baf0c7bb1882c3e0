-- What the disk holds before and after a call: a host's journal, or none. This host's own rule.
use Rattle.std.specs.Prelude.{ℕ, ◌+◌, ◌≡◌, ◌⊎◌, true, false, List, ◌++◌, length, decimal, codes}
use Rattle.sc_book.specs.Books.{first_head, opening}
use Rattle.sc_book.specs.Images.{Spell, StandsFor}
use Rattle.sc_book.specs.Openings.{HasFirstBad, IsDamagedAt}
use Rattle.sc_book.specs.Receipts.{most_body}
use Rattle.sc_codec.specs.Bodies.{body_of}
use Rattle.sc_machine.specs.Accepted.{AreAccepted, accepted_commands}
use Rattle.sc_machine.specs.Commands.{answer}
use Rattle.sc_machine.specs.Histories.{replay}
use Rattle.sc_machine.specs.Hosts.{empty_host}
use Rattle.sc_dev.specs.Causes.{Rose}
use Rattle.sc_dev.specs.Disks.{DiskLaw, DiskOf, Within}
use Rattle.sc_journal.specs.Journals.{IsFull}
use Rattle.sc_journal.specs.Texts.{front, has_open_header}
use Rattle.sc_script.specs.declared.script.Script.{Script}
use Rattle.sc_types.specs.declared.command.Command.{Command}
use Rattle.sc_types.specs.declared.history.Entry.{Entry}
use Rattle.sc_types.specs.declared.host.HostImage.{HostImage}
use Rattle.sc_report.specs.Lines.{line}
use Rattle.sc_top.specs.Run.{ComesNext}
use Rattle.sc_top.specs.declared.status.Status.{Status}
use Rattle.sc_top.specs.declared.status.Status.TheVariants as status

-- What is known of a disk before and after a call: whether it tells what it holds; what reads gave and a stop might
-- leave before; whether its count of faults rose, and whether it stayed; and what reads give and a stop may leave after.
pub record DiskKnown : Type 1 where
  pub told : Type 0
  pub read : DiskOf
  pub left : DiskOf → Type 0
  pub failed : Type 0
  pub fine : Type 0
  pub reads : DiskOf
  pub leaves : DiskOf → Type 0

abbrev pub disk_known : {D : Type 0} → DiskLaw D → D → D → DiskKnown
disk_known law old new = record {
  told = law.tells;
  read = law.reads old;
  left = law.may_leave old;
  failed = Rose (law.faults old) (law.faults new);
  fine = law.faults new ≡ law.faults old;
  reads = law.reads new;
  leaves = law.may_leave new;
}

-- nothing was written: a stop leaves what it left before
abbrev pub IsUnwritten : DiskKnown → Type 0
IsUnwritten k = k.told → Within k.left k.leaves

-- the disk stands for so many commands and their host: so it reads, and so each stop leaves it
pub record IsStored (k : DiskKnown) (n : ℕ) (g : HostImage) : Type 0 where
  pub reads : StandsFor k.reads n g
  pub stops : (c : DiskOf) → k.leaves c → StandsFor c n g

-- how many commands the journal holds after a history, and the host
abbrev pub count_after : List Command → List Entry → ℕ
count_after past history = length past + length (accepted_commands history)

abbrev pub host_after : List Command → List Entry → HostImage
host_after past history = replay (opening past) history

-- one command more, which comes next in the run and which a fault of the disk left in doubt
pub record IsWithNext (past : List Command) (s : Script) (workers budget : ℕ) (history : List Entry)
    (c : DiskOf) : Type 0 where
  pub entry : Entry
  pub next : ComesNext past s workers budget history entry
  pub stands : StandsFor c (count_after past history + 1) (answer (host_after past history) entry.command).host

-- an image stands for the history, or for that with the command in doubt
abbrev pub IsWithOrWithout : List Command → Script → ℕ → ℕ → List Entry → DiskOf → Type 0
IsWithOrWithout past s workers budget history c =
    StandsFor c (count_after past history) (host_after past history) ⊎ IsWithNext past s workers budget history c

pub record IsDoubtful (k : DiskKnown) (past : List Command) (s : Script) (workers budget : ℕ)
    (history : List Entry) : Type 0 where
  pub reads : IsWithOrWithout past s workers budget history k.reads
  pub stops : (c : DiskOf) → k.leaves c → IsWithOrWithout past s workers budget history c

-- where the journal of these commands ends
pub record IsEndOf (commands : List Command) (end : ℕ) : Type 0 where
  pub bodies : List (List ℕ)
  pub spell : Spell bodies commands
  pub is : end ≡ length (front first_head bodies)

-- the journal has no room for the command of this entry
pub record HasNoRoomFor (k : DiskKnown) (past : List Command) (history : List Entry) (e : Entry) : Type 0 where
  pub end : ℕ
  pub is_end : k.told → IsEndOf (past ++ accepted_commands history) end
  pub full : IsFull end (count_after past history + 1) (length (body_of e.command))

-- the journal lacks room for some command: it has none for one of the longest
pub record IsTight (k : DiskKnown) (past : List Command) (history : List Entry) : Type 0 where
  pub end : ℕ
  pub is_end : k.told → IsEndOf (past ++ accepted_commands history) end
  pub full : IsFull end (count_after past history + 1) most_body

-- A journal that was opened: the commands that it held, each accepted in its turn. The disk read as a journal of these
-- commands; where it stood for so many commands and a host, they are those.
pub record Opening (k : DiskKnown) : Type 0 where
  pub past : List Command
  pub accepted : AreAccepted empty_host past
  pub read : k.told → StandsFor k.read (length past) (opening past)
  pub stood : k.told → (n : ℕ) (g : HostImage) → StandsFor k.read n g → (length past ≡ n) × (opening past ≡ g)

-- why a disk holds no journal that a host can be made of
pub data FailsToOpen (k : DiskKnown) : Status → List ℕ → Type 0 where
  disk_fault : k.failed → FailsToOpen k status.DiskFault (codes "disk\n")
  damaged : (at : ℕ) → (k.told → IsDamagedAt k.read.journal at)
      → FailsToOpen k status.BadJournal (line (codes "damaged " ++ decimal at))
  bad_entry : (n : ℕ) → (k.told → HasFirstBad k.read.journal n)
      → FailsToOpen k status.BadJournal (line (codes "entry " ++ decimal n))

-- of `init`: a journal was made, or stood there
pub data Creates (k : DiskKnown) : Status → List ℕ → Type 0 where
  created : (k.told → has_open_header k.read.journal ≡ false) → (k.told → IsStored k 0 empty_host)
      → Creates k status.Done (codes "created\n")
  exists : (k.told → has_open_header k.read.journal ≡ true) → IsUnwritten k → Creates k status.Exists (codes "exists\n")
  not_created : k.failed → Creates k status.DiskFault (codes "disk\n")
