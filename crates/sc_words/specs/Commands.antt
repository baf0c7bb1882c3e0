-- Facts of `clap`'s commands and matches that private clauses of this crate cite; no public contract does.
use Rattle.std.specs.Prelude.{◌≡◌, ◌≢◌, false, Option, List, [], MatchOption}
use Rattle.clap.specs.Words.{App, Text, app_of, subcommand_rows_of}
use Rattle.clap.specs.declared.builder.command.Command.{Command}
use Rattle.clap.specs.declared.builder.command.Command.TheViews.{out-Command}
use Rattle.clap.specs.declared.parser.matches.ArgMatches.{ArgMatches}
use Rattle.sc_words.specs.Table.{chosen, faults}

-- no argument of the command reaches its subcommands
abbrev pub IsLocal : Command → Type 0
IsLocal c = (out-Command c).has_globals ≡ false

-- the command is read as `a`
pub record IsCommand (a : App) (c : Command) : Type 0 where
  pub app : app_of c ≡ a
  pub local : IsLocal c

-- the matches of the words where the table takes them, and nothing where it finds a fault
abbrev pub IsMatched : List Text → Option ArgMatches → Type 0
IsMatched words m = MatchOption m (faults words ≢ []) (λ m. (faults words ≡ []) × (subcommand_rows_of m ≡ chosen words))
