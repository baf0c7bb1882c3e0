-- The script of the lines that were read and of those behind them.
use Rattle.std.proofs.Common.{◌≡◌, ℕ, suc, ◌≤◌, Ok, Err, List, [], ◌∷◌, length, refl, ap, ◌∙◌, arith}
use Rattle.std.proofs.lemmas.Bool.{le-ltb}
use Rattle.sc_types.specs.declared.limits.TheConstants.{SCRIPT_TEXT_LIMIT}
use Rattle.sc_types.specs.declared.command.Command.{Command}
use Rattle.sc_script.specs.Joined.{joined, joins}
use Rattle.sc_script.specs.Lines.{lines}
use Rattle.sc_script.specs.Meanings.{Said, meaning}
use Rattle.sc_script.specs.Scripts.{Spelled, empty_script, line_script, script_from, script_of}
use Rattle.sc_script.specs.declared.fault.Cause.{Cause}
use Rattle.sc_script.specs.declared.fault.ScriptFault.{ScriptFault}
use Rattle.sc_script.specs.declared.reader.Reading.{Reading}

-- a line, by what it says
pub at_line : (number clients : ℕ) (line : List ℕ) (more : List (List ℕ)) (m : Said) → meaning line ≡ m
    → script_from number clients (line ∷ more)
    ≡ line_script number clients m (λ (n : ℕ). script_from (suc number) n more)
unfolding script_from
at_line number clients line more m e =
    ap (λ (m : Said). line_script number clients m (λ (n : ℕ). script_from (suc number) n more)) e

-- a faulty line leaves no script
pub at_fault : (number clients : ℕ) (line : List ℕ) (more : List (List ℕ)) (cause : Cause) (f : ScriptFault)
    → meaning line ≡ Err cause
    → record { line = number; cause = cause } ≡ f → script_from number clients (line ∷ more) ≡ Err f
at_fault number clients line more cause f e g =
    at_line number clients line more (Err cause) e ∙ ap (λ (f : ScriptFault). Err f) g

-- before the first line there is nothing
pub fresh : (reading : Reading) → reading.closed ≡ [] → reading.current ≡ [] → (s : Spelled) → joins reading s ≡ s
fresh reading h k (Err fault) = refl
fresh reading h k (Ok script) =
    ap (λ (closed : List (List Command)). Ok (joined closed reading.current script)) h
    ∙ ap (λ (current : List Command). Ok (joined [] current script)) k

-- behind the last line there is nothing
pub whole : (reading : Reading) (number : ℕ) (rest : List ℕ) → length rest ≡ 0
    → joins reading (script_from number (length reading.closed) (lines rest))
    ≡ Ok (joined reading.closed reading.current empty_script)
unfolding script_from lines
whole reading number [] h = refl
whole reading number (b ∷ rest) h = absurd (omega arith)

-- a text within the limit is read from its first line on
pub within_limit : (text : List ℕ) → length text ≤ SCRIPT_TEXT_LIMIT → script_of text ≡ script_from 1 0 (lines text)
within_limit text h = rw (le-ltb SCRIPT_TEXT_LIMIT (length text) h)
