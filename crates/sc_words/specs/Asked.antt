-- What the words of a command line ask for. This host's own rule.
use Rattle.std.specs.Prelude.{ℕ, ◌||◌, Bool, if◌then◌else◌, Option, Some, None, option_map, option_and_then, List, [], ◌∷◌, codes}
use Rattle.std.specs.List.{list_any}
use Rattle.std.specs.Str.{bytes_eq}
use Rattle.clap.specs.Words.{Kinds, Row, Text, first_of}
use Rattle.sc_words.specs.Numbers.{limited, number_of}
use Rattle.sc_words.specs.Table.{chosen, faults}
use Rattle.sc_words.specs.declared.asked.Asked.{Asked}
use Rattle.sc_words.specs.declared.asked.Asked.TheVariants.{Init, Run, Show, Check, Gen}
use Rattle.sc_words.specs.declared.asked.TheConstants.{RUN_WORKERS, RUN_WORKERS_LIMIT, RUN_BUDGET, RUN_BUDGET_LIMIT, GEN_SIZE_LIMIT}

-- words that `clap` would answer itself, or take as the end of the options: no command has them, wherever they stand
unfoldable pub is_barred : Text → Bool
is_barred word = bytes_eq word (codes "help") || bytes_eq word (codes "--help") || bytes_eq word (codes "-h")
    || bytes_eq word (codes "--")

-- the number of an option, or its default where it is left out
abbrev pub optional : ℕ → ℕ → ℕ → Option Text → Option ℕ
optional default least most None = Some default
optional default least most (Some text) = limited least most text

abbrev pub workers_of : List Row → Option ℕ
workers_of values = optional RUN_WORKERS 0 RUN_WORKERS_LIMIT (first_of (codes "workers") values)

abbrev pub budget_of : List Row → Option ℕ
budget_of values = optional RUN_BUDGET 1 RUN_BUDGET_LIMIT (first_of (codes "budget") values)

abbrev pub run_of : List Row → Option Asked
run_of values =
    option_and_then (λ workers. option_map (λ budget. Run workers budget) (budget_of values)) (workers_of values)

abbrev pub gen_of : List Row → Option Asked
gen_of values = option_and_then (λ number. option_map (λ size. Gen number size)
    (option_and_then (limited 1 GEN_SIZE_LIMIT) (first_of (codes "size") values)))
    (option_and_then number_of (first_of (codes "number") values))

abbrev pub command_of : Text → List Row → Option Asked
command_of name values =
    if bytes_eq name (codes "init") then Some Init
    else (if bytes_eq name (codes "run") then run_of values
    else (if bytes_eq name (codes "show") then Some Show
    else (if bytes_eq name (codes "check") then Some Check
    else (if bytes_eq name (codes "gen") then gen_of values else None))))

-- the command of words that the table takes
abbrev pub taken : Kinds → Option (Text × List Row) → Option Asked
taken [] choice = option_and_then (λ p. command_of p.0 p.1) choice
taken (fault ∷ more) choice = None

-- what the words after the program's name ask for; nothing where they are no command of the table
abbrev pub asked : List Text → Option Asked
asked words = if list_any is_barred words then None else taken (faults words) (chosen words)
