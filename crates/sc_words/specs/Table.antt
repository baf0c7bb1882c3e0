-- The table of commands as `clap` is told it. This host's own rule.
use Rattle.std.specs.Prelude.{true, Option, Some, List, codes}
use Rattle.clap.specs.Words.{App, Kinds, Row, Rule, Text, fault_of, new_app, new_rule, subcommand_of, with_rule, with_subcommand}

-- `--NAME VALUE` or `--NAME=VALUE`, which may be left out and stands once at most
abbrev pub option : Text → Rule
option name = record (new_rule name) { long = Some name }

-- a word that has to stand at its place
abbrev pub operand : Text → Rule
operand name = record (new_rule name) { required = true }

abbrev pub run_app : App
run_app = with_rule (with_rule (new_app (codes "run")) (option (codes "workers"))) (option (codes "budget"))

abbrev pub gen_app : App
gen_app = with_rule (with_rule (new_app (codes "gen")) (operand (codes "number"))) (operand (codes "size"))

-- the words of a command line, of which the first has to name a command
abbrev pub bare_app : App
bare_app = let a = new_app (codes "charthost") in
    record a { top = record a.top { no_binary_name = true; subcommand_required = true } }

-- `init`, `run [--workers N] [--budget N]`, `show`, `check` and `gen NUMBER SIZE`
abbrev pub the_app : App
the_app = with_subcommand (with_subcommand (with_subcommand (with_subcommand (with_subcommand bare_app
    (new_app (codes "init")).top) run_app.top) (new_app (codes "show")).top) (new_app (codes "check")).top) gen_app.top

-- what is wrong with the words, by the table; nothing where `clap` takes them
unfoldable pub faults : List Text → Kinds
faults words = fault_of the_app words

-- the command that the words name, and the values of its options and operands
unfoldable pub chosen : List Text → Option (Text × List Row)
chosen words = subcommand_of the_app words
