-- The commands of a history that the host accepted, and what they alone make of a host. This host's own rule.
use Rattle.std.specs.Prelude.{◌≡◌, Bool, false, true, if◌then◌else◌, List, [], ◌∷◌, ℕ, count_by}
use Rattle.sc_types.specs.declared.command.Command.{Command}
use Rattle.sc_types.specs.declared.command.Command.TheVariants.{Step}
use Rattle.sc_types.specs.declared.command.Reply.{Reply}
use Rattle.sc_types.specs.declared.command.Reply.TheVariants.{Refused, Stepped}
use Rattle.sc_types.specs.declared.history.Entry.{Entry}
use Rattle.sc_types.specs.declared.host.HostImage.{HostImage}
use Rattle.sc_machine.specs.Commands.{answer}

-- every reply but a refusal is that of an accepted command
abbrev pub is_accepted : Reply → Bool
is_accepted (Refused why) = false
is_accepted reply = true

-- the commands of the entries whose reply is accepted, in order
abbrev pub accepted_commands : List Entry → List Command
accepted_commands [] = []
accepted_commands (e ∷ es) =
    if is_accepted e.reply then e.command ∷ accepted_commands es else accepted_commands es

-- the host after commands, one by one
abbrev pub after : HostImage → List Command → HostImage
after g [] = g
after g (c ∷ cs) = after (answer g c).host cs

-- each command is accepted by the host that the ones before it leave
abbrev pub AreAccepted : HostImage → List Command → Type 0
AreAccepted g [] = Unit {0}
AreAccepted g (c ∷ cs) = (is_accepted (answer g c).reply ≡ true) × AreAccepted (answer g c).host cs

-- the steps of a history that the host accepted

abbrev pub is_accepted_step : Command → Reply → Bool
is_accepted_step (Step session) (Stepped cue) = true
is_accepted_step c reply = false

abbrev pub accepted_steps : List Entry → ℕ
accepted_steps history = count_by (λ (e : Entry). is_accepted_step e.command e.reply) history
