-- What is always true of a book: its history is legal, its host is what the history leaves, and its journal holds the
-- commands that were accepted, whenever the machine stops. This host's own rule.
use Rattle.std.specs.Prelude.{ℕ, ◌+◌, ◌-◌, ◌^◌, ◌<◌, ◌≤◌, ◌≡◌, ◌⊎◌, All, true, Some, List, [], ◌∷◌, ◌++◌, length, slice_get, take}
use Rattle.std.specs.List.{Contains}
use Rattle.sc_book.specs.Images.{Spell, StandsFor}
use Rattle.sc_book.specs.declared.doubt.Doubt.{Doubt}
use Rattle.sc_codec.specs.Bodies.{Spells}
use Rattle.sc_machine.specs.Accepted.{AreAccepted, accepted_commands, after, is_accepted}
use Rattle.sc_machine.specs.Commands.{answer}
use Rattle.sc_machine.specs.Histories.{IsLegal, replay}
use Rattle.sc_machine.specs.Hosts.{empty_host}
use Rattle.sc_dev.specs.Causes.{Rose}
use Rattle.sc_dev.specs.Disks.{DiskLaw, DiskOf}
use Rattle.sc_journal.specs.Journals.{JournalOf, Keeps}
use Rattle.sc_journal.specs.Texts.{HeadOf}
use Rattle.sc_types.specs.declared.command.Command.{Command}
use Rattle.sc_types.specs.declared.history.Entry.{Entry}
use Rattle.sc_types.specs.declared.host.HostImage.{HostImage}

-- A book: the host, how many commands the journal held at the opening, what happened since, the disk's moment at the
-- end of the opening and at the end of each entry, the commands that a fault left in doubt, the places of the sessions
-- that workers took to step, ascending, and the journal.
pub record BookOf (D : Type 0) : Type 0 where
  pub host : HostImage
  pub opened : ℕ
  pub history : List Entry
  pub start : ℕ
  pub moments : List ℕ
  pub doubts : List Doubt
  pub claims : List ℕ
  pub journal : JournalOf D

-- the host at the opening, after the commands that the journal held
abbrev pub opening : List Command → HostImage
opening past = after empty_host past

-- the host after the first entries of a history
abbrev pub host_after : List Command → List Entry → ℕ → HostImage
host_after past history n = replay (opening past) (take n history)

-- how many commands the journal held after the first entries
abbrev pub count_after : List Command → List Entry → ℕ → ℕ
count_after past history n = length past + length (accepted_commands (take n history))

-- an image stands for the first entries of a history, k of them at least
pub record IsAt (past : List Command) (history : List Entry) (k : ℕ) (d : DiskOf) : Type 0 where
  pub entries : ℕ
  pub least : k ≤ entries
  pub most : entries ≤ length history
  pub stands : StandsFor d (count_after past history entries) (host_after past history entries)

-- it stands for k of them at least, and a command behind them that a fault left in doubt there
pub record IsInDoubt (past : List Command) (history : List Entry) (doubts : List Doubt) (k : ℕ)
    (d : DiskOf) : Type 0 where
  pub doubt : Doubt
  pub one : Contains doubts doubt
  pub least : k ≤ doubt.before
  pub most : doubt.before ≤ length history
  pub stands : StandsFor d (count_after past history doubt.before + 1)
      (answer (host_after past history doubt.before) doubt.command).host

-- one of both
abbrev pub IsSince : List Command → List Entry → List Doubt → ℕ → DiskOf → Type 0
IsSince past history doubts k d = IsAt past history k d ⊎ IsInDoubt past history doubts k d

-- The moments of the entries of a history never fall, from this one on, and that of an accepted entry rose.
abbrev pub Rise : ℕ → List Entry → List ℕ → Type 0
Rise m [] [] = Unit {0}
Rise m (e ∷ es) (n ∷ ns) = (m ≤ n) × ((is_accepted e.reply ≡ true → Rose m n) × Rise n es ns)
Rise m es ns = ⊥

-- a journal begins with the entry 1, in the format 1
abbrev pub first_head : HeadOf
first_head = record { format = 1; first = 1 }

-- the journal holds these commands, at every stop
pub record HoldsAll {D : Type 0} (law : DiskLaw D) (j : JournalOf D)
    (commands : List Command) : Type 0 where
  pub bodies : List (List ℕ)
  pub spell : Spell bodies commands
  pub keeps : Keeps law j first_head bodies

-- the command that a fault left in doubt in the journal is the last of those that are kept, and no entry followed it
pub record IsLastDoubt {D : Type 0} (b : BookOf D) (body : List ℕ) : Type 0 where
  pub doubt : Doubt
  pub one : Contains b.doubts doubt
  pub last : doubt.before ≡ length b.history
  pub spells : Spells body doubt.command
  pub accepted : is_accepted (answer b.host doubt.command).reply ≡ true

-- A book whose journal held these commands at the opening.
pub record IsBook {D : Type 0} (law : DiskLaw D) (past : List Command) (b : BookOf D) : Type 0 where
  pub opened : b.opened ≡ length past
  pub past_accepted : AreAccepted empty_host past
  pub legal : IsLegal (opening past) b.history
  pub host : b.host ≡ replay (opening past) b.history
  pub next : b.journal.next ≡ length past + length (accepted_commands b.history) + 1
  pub stored : law.tells → HoldsAll law b.journal (past ++ accepted_commands b.history)
  pub doubt : (body : List ℕ) → b.journal.doubt ≡ Some body → IsLastDoubt b body
  -- the moments of the opening and of the entries
  pub rise : Rise b.start b.history b.moments
  pub reached : All (λ m. m ≤ law.moment b.journal.disk) (b.start ∷ b.moments)
  -- Since each of these moments a stop leaves what was accepted until then, and what was accepted later in part.
  pub images : law.tells → (k m : ℕ) → slice_get (b.start ∷ b.moments) k ≡ Some m → m < 2 ^ 64 - 1
      → (d : DiskOf) → law.may_have_left b.journal.disk m d → IsSince past b.history b.doubts k d

-- a book whose journal held some commands at the opening
pub record IsSome {D : Type 0} (law : DiskLaw D) (b : BookOf D) : Type 0 where
  pub past : List Command
  pub is : IsBook law past b
