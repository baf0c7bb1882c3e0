-- The lines of scripts and reports that name a command. This host's own rule.
use Rattle.std.specs.Prelude.{ℕ, List, [], ◌∷◌, ◌++◌, codes, decimal}
use Rattle.std.specs.List.{flat_map}
use Rattle.sc_types.specs.declared.command.Command.{Command}
use Rattle.sc_types.specs.declared.command.Command.TheVariants.{Install, Start, Post, Tick, Cancel, Step}
use Rattle.sc_types.specs.Values.{value_text}
use Rattle.sc_types.specs.declared.value.Value.{Value}

abbrev pub pair_text : List ℕ × Value → List ℕ
pair_text p = codes " " ++ p.0 ++ codes "=" ++ value_text p.1

-- the line of a command, without its line feed
abbrev pub command_text : Command → List ℕ
command_text (Install name chart) = codes "chart " ++ name ++ codes " " ++ chart
command_text (Start session chart) = codes "start " ++ session ++ codes " " ++ chart
command_text (Post session event pairs) = codes "post " ++ session ++ codes " " ++ event ++ flat_map pair_text pairs
command_text (Tick ticks) = codes "tick " ++ decimal ticks
command_text (Cancel session) = codes "cancel " ++ session
command_text (Step session) = codes "step " ++ session

-- a line with its line feed
abbrev pub line : List ℕ → List ℕ
line text = text ++ 10 ∷ []
