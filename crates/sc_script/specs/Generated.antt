-- The scripts that `generate` draws from a number. This host's own rule.
use Rattle.std.specs.Prelude.{ℕ, zero, suc, ◌+◌, ◌*◌, ◌/◌, ◌%◌, ◌^◌, ◌==◌, if◌then◌else◌, List, [], ◌∷◌, ◌++◌, codes}
use Rattle.sc_types.specs.declared.command.Command.{Command}
use Rattle.sc_types.specs.declared.command.Command.TheVariants.{Install, Start, Post, Tick}
use Rattle.sc_script.specs.declared.generator.TheConstants.{CHART, SESSIONS}
use Rattle.sc_script.specs.declared.script.Script.{Script}

-- the number that is drawn behind this one: Knuth's linear congruential generator of 64 bits
unfoldable pub next_number : ℕ → ℕ
next_number x = (x * 6364136223846793005 + 1442695040888963407) % 2 ^ 64

-- `g0` to `g7`
abbrev pub session_name : ℕ → List ℕ
session_name place = 103 ∷ (48 + place) ∷ []

-- the command that a number draws: one in ten is a tick
unfoldable pub command_of : ℕ → Command
command_of x =
    if (x / 2 ^ 33) % 10 == 0 then Tick 1 else Post (session_name ((x / 2 ^ 40) % SESSIONS)) (codes "inc") []

-- the commands of so many numbers that are drawn behind this one
abbrev pub drawn_commands : ℕ → ℕ → List Command
drawn_commands zero x = []
drawn_commands (suc size) x = command_of (next_number x) ∷ drawn_commands size (next_number x)

-- the starts of so many sessions, the first ones first
abbrev pub starts : ℕ → List Command
starts zero = []
starts (suc count) = starts count ++ Start (session_name count) (codes "n") ∷ []

abbrev pub opening : List Command
opening = Install (codes "n") CHART.now ∷ starts SESSIONS

abbrev pub generated : ℕ → ℕ → Script
generated number size = record { setup = opening ++ drawn_commands size number; clients = [] }
