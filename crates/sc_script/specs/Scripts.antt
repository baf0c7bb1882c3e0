-- The script that a text spells, or its first fault. This host's own rule.
use Rattle.std.specs.Prelude.{ℕ, suc, nat_lt, if◌then◌else◌, Result, Ok, Err, List, [], ◌∷◌, length}
use Rattle.sc_types.specs.declared.limits.TheConstants.{SCRIPT_TEXT_LIMIT, CLIENT_LIMIT}
use Rattle.sc_script.specs.Lines.{lines}
use Rattle.sc_script.specs.Meanings.{Said, meaning}
use Rattle.sc_script.specs.declared.fault.Cause.{Cause}
use Rattle.sc_script.specs.declared.fault.Cause.TheVariants.{TooManyClients, TooLarge}
use Rattle.sc_script.specs.declared.fault.ScriptFault.{ScriptFault}
use Rattle.sc_script.specs.declared.meaning.Meaning.{Meaning}
use Rattle.sc_script.specs.declared.meaning.Meaning.TheVariants.{Blank, Client, Asks}
use Rattle.sc_script.specs.declared.script.Script.{Script}

abbrev pub Spelled : Type 0
Spelled = Result Script ScriptFault

abbrev pub empty_script : Script
empty_script = record { setup = []; clients = [] }

-- what a line says, before the script of the lines behind it: the commands behind a line `client`, which without it
-- would be of the set-up, are of the first client
abbrev pub before : Meaning → Script → Script
before Blank script = script
before Client script = record { setup = []; clients = script.setup ∷ script.clients }
before (Asks command) script = record { setup = command ∷ script.setup; clients = script.clients }

abbrev pub put_before : Meaning → Spelled → Spelled
put_before m (Err fault) = Err fault
put_before m (Ok script) = Ok (before m script)

abbrev pub faulty : ℕ → Cause → Spelled
faulty number cause = Err (record { line = number; cause = cause })

-- what a line of this number makes of the lines behind it, given so many lines `client` before it
abbrev pub line_script : ℕ → ℕ → Said → (ℕ → Spelled) → Spelled
line_script number clients (Err cause) behind = faulty number cause
line_script number clients (Ok Client) behind =
    if nat_lt clients CLIENT_LIMIT then put_before Client (behind (suc clients)) else faulty number TooManyClients
line_script number clients (Ok m) behind = put_before m (behind clients)

-- the script of lines, given the number of the first of them and how many lines `client` stand before it
unfoldable pub script_from : ℕ → ℕ → List (List ℕ) → Spelled
script_from number clients [] = Ok empty_script
script_from number clients (line ∷ more) =
    line_script number clients (meaning line) (λ clients. script_from (suc number) clients more)

-- the script that a text spells, or its first fault
abbrev pub script_of : List ℕ → Spelled
script_of text = if nat_lt SCRIPT_TEXT_LIMIT (length text) then faulty 0 TooLarge else script_from 1 0 (lines text)
