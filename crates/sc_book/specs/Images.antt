-- What an image of a disk stands for: so many journaled commands, and the host after them. This host's own rule.
use Rattle.std.specs.Prelude.{ℕ, ◌+◌, ◌≡◌, List, [], ◌∷◌, length}
use Rattle.sc_codec.specs.Bodies.{Spells}
use Rattle.sc_machine.specs.Accepted.{AreAccepted, after}
use Rattle.sc_machine.specs.Hosts.{empty_host}
use Rattle.sc_dev.specs.Disks.{DiskOf}
use Rattle.sc_journal.specs.Texts.{HeadOf, Holds}
use Rattle.sc_types.specs.declared.command.Command.{Command}
use Rattle.sc_types.specs.declared.host.HostImage.{HostImage}

-- each body spells the command at its place
abbrev pub Spell : List (List ℕ) → List Command → Type 0
Spell [] [] = Unit {0}
Spell (body ∷ bodies) (c ∷ cs) = Spells body c × Spell bodies cs
Spell bodies cs = ⊥

-- The host before the first entry of a journal, by the number of that entry. A journal begins with the entry 1, whose
-- host is empty.
pub record IsBase (d : DiskOf) (number : ℕ) (base : HostImage) : Type 0 where
  pub first : number ≡ 1
  pub empty : base ≡ empty_host

-- The journal holds so many commands, each of which the host accepted in its turn, and this is the host after them.
pub record StandsFor (d : DiskOf) (n : ℕ) (g : HostImage) : Type 0 where
  pub head : HeadOf
  pub base : HostImage
  pub is_base : IsBase d head.first base
  pub bodies : List (List ℕ)
  pub commands : List Command
  pub holds : Holds head bodies d.journal
  pub spell : Spell bodies commands
  pub accepted : AreAccepted base commands
  pub host : g ≡ after base commands
  pub count : n + 1 ≡ head.first + length commands
