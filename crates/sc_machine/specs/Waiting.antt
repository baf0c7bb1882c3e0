-- A session that is ready stays so until it steps. This host's own rule.
use Rattle.std.specs.Prelude.{ℕ, ◌≡◌, Bool, false, true, List, [], slice_get}
use Rattle.std.specs.Option.{option_map_or}
use Rattle.std.specs.Str.{bytes_eq}
use Rattle.sc_types.specs.declared.command.Command.{Command}
use Rattle.sc_types.specs.declared.command.Command.TheVariants.{Step}
use Rattle.sc_types.specs.declared.command.Reply.{Reply}
use Rattle.sc_types.specs.declared.command.Reply.TheVariants.{Stepped}
use Rattle.sc_types.specs.declared.host.HostImage.{HostImage}
use Rattle.sc_types.specs.declared.host.SessionImage.{SessionImage}
use Rattle.sc_machine.specs.Commands.{answer}
use Rattle.sc_machine.specs.Cues.{is_ready}

-- the session at a place has a cue
abbrev pub is_ready_at : HostImage → ℕ → Bool
is_ready_at g place = option_map_or is_ready (slice_get g.sessions place) false

-- the name of the session at a place
abbrev pub name_at : HostImage → ℕ → List ℕ
name_at g place = option_map_or (λ (s : SessionImage). s.state.session) (slice_get g.sessions place) []

-- a step that was accepted, of the session of this name
abbrev pub is_step_of : List ℕ → Command → Reply → Bool
is_step_of name (Step session) (Stepped cue) = bytes_eq session name
is_step_of name c reply = false

-- whatever the host answers but an accepted step of the session at a place, that session is ready still
abbrev pub StaysReady : HostImage → ℕ → Type 0
StaysReady g place = (c : Command) → is_ready_at g place ≡ true
    → is_step_of (name_at g place) c (answer g c).reply ≡ false → is_ready_at (answer g c).host place ≡ true
