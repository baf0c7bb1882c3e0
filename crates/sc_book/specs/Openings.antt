-- How a journal is opened as a host. This host's own rule.
use Rattle.std.specs.Prelude.{ℕ, ◌+◌, ◌≡◌, ◌≢◌, ◌⊎◌, false, true, Ok, Err, List, [], ◌∷◌, ◌++◌, length}
use Rattle.sc_book.specs.Books.{BookOf, IsBook}
use Rattle.sc_book.specs.Images.{Spell}
use Rattle.sc_book.specs.declared.fault.OpenFault.{OpenFault}
use Rattle.sc_book.specs.declared.fault.OpenFault.TheVariants.{Damaged, BadEntry}
use Rattle.sc_codec.specs.Bodies.{Spells}
use Rattle.sc_machine.specs.Accepted.{AreAccepted, after, is_accepted}
use Rattle.sc_machine.specs.Commands.{answer}
use Rattle.sc_machine.specs.Hosts.{empty_host}
use Rattle.sc_dev.specs.Disks.{DiskLaw, DiskOf}
use Rattle.sc_journal.specs.Texts.{HeadOf, Holds, held}
use Rattle.sc_types.specs.declared.command.Command.{Command}
use Rattle.sc_types.specs.declared.host.HostImage.{HostImage}

-- a book with no entries yet
pub record IsOpened {D : Type 0} (law : DiskLaw D) (b : BookOf D) : Type 0 where
  pub past : List Command
  pub book : IsBook law past b
  pub history : b.history ≡ []
  pub doubts : b.doubts ≡ []
  pub claims : b.claims ≡ []
  pub start : b.start ≡ law.moment b.journal.disk

-- the disk failed, or memory was wanting
abbrev pub NamesNoPlace : OpenFault → Type 0
NamesNoPlace (Damaged at) = ⊥
NamesNoPlace (BadEntry n) = ⊥
NamesNoPlace fault = Unit {0}

-- a journal whose first entry has another number than 1
pub record HasOtherFirst (text : List ℕ) : Type 0 where
  pub head : HeadOf
  pub bodies : List (List ℕ)
  pub holds : Holds head bodies text
  pub other : head.first ≢ 1

-- the text is damaged there; the number of its first entry stands at 12
abbrev pub IsDamagedAt : List ℕ → ℕ → Type 0
IsDamagedAt text at = (held text ≡ Err at) ⊎ ((at ≡ 12) × HasOtherFirst text)

-- a body spells no command that the host accepts
abbrev pub IsBadAt : HostImage → List ℕ → Type 0
IsBadAt g body = (c : Command) → Spells body c → is_accepted (answer g c).reply ≡ false

-- the body of this number, from 1 on, is the first that spells no command which the host accepts there
pub record IsFirstBad (bodies : List (List ℕ)) (n : ℕ) : Type 0 where
  pub good : List (List ℕ)
  pub commands : List Command
  pub bad : List ℕ
  pub rest : List (List ℕ)
  pub whole : bodies ≡ good ++ bad ∷ rest
  pub spell : Spell good commands
  pub accepted : AreAccepted empty_host commands
  pub is_bad : IsBadAt (after empty_host commands) bad
  pub number : n ≡ length good + 1

-- and so of the bodies that a text holds
pub record HasFirstBad (text : List ℕ) (n : ℕ) : Type 0 where
  pub bodies : List (List ℕ)
  pub held : held text ≡ Ok bodies
  pub first : IsFirstBad bodies n

-- ---- for private clauses

-- what a command that is accepted makes of the host
pub record IsMade (g : HostImage) (c : Command) (h : HostImage) : Type 0 where
  pub accepted : is_accepted (answer g c).reply ≡ true
  pub host : h ≡ (answer g c).host

-- and the command that a body spells
pub record IsRedone (g : HostImage) (body : List ℕ) (h : HostImage) : Type 0 where
  pub command : Command
  pub spells : Spells body command
  pub made : IsMade g command h

-- and those of several bodies, from the empty host on
pub record IsReplayed (bodies : List (List ℕ)) (h : HostImage) : Type 0 where
  pub commands : List Command
  pub spell : Spell bodies commands
  pub accepted : AreAccepted empty_host commands
  pub host : h ≡ after empty_host commands
