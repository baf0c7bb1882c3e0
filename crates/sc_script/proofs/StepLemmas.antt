-- What is known of the commands that a text spells: none is a step.
use Rattle.std.proofs.Common.{◌≡◌, ℕ, suc, Bool, true, false, ◌&&◌, Option, Some, None, Ok, Err, List, [], ◌∷◌, if◌then◌else◌, nat_lt, length, ◌==◌, ◌^◌, subst}
use Rattle.std.specs.Str.{is_utf8}
use Rattle.sc_base.specs.Text.{is_word}
use Rattle.sc_expr.specs.Numbers.{below}
use Rattle.sc_types.specs.Tokens.{number_of}
use Rattle.sc_types.specs.declared.command.Command.TheVariants.{Cancel, Install, Start}
use Rattle.sc_types.specs.declared.limits.TheConstants.{CLIENT_LIMIT, SCRIPT_TEXT_LIMIT}
use Rattle.sc_script.specs.Lines.{behind_word, first_word, lines, trimmed, without_return}
use Rattle.sc_script.specs.Meanings.{Said, asks, cancel_line, chart_line, form_of, meaning, post_line, posted, said, start_line, tick_line, ticked, words_say}
use Rattle.sc_script.specs.Pairs.{Pair, pairs_of}
use Rattle.sc_script.specs.Scripts.{Spelled, faulty, line_script, put_before, script_from, script_of}
use Rattle.sc_script.specs.declared.fault.Cause.{Cause}
use Rattle.sc_script.specs.declared.fault.Cause.TheVariants.{BadWord, Extra, Missing, NotUtf8, TooLarge, TooManyClients}
use Rattle.sc_script.specs.declared.meaning.Form.{Form}
use Rattle.sc_script.specs.declared.meaning.Form.TheVariants as form
use Rattle.sc_script.specs.declared.meaning.Meaning.{Meaning}
use Rattle.sc_script.specs.declared.meaning.Meaning.TheVariants.{Asks, Blank, Client}
use Rattle.sc_script.specs.declared.script.Script.{Script}
use Rattle.sc_script.specs.Steps.{HasNoStep, IsNoStep}

-- what a line says is no step
abbrev IsNone : Said → Type 0
IsNone (Err cause) = Unit {0}
IsNone (Ok Blank) = Unit {0}
IsNone (Ok Client) = Unit {0}
IsNone (Ok (Asks command)) = IsNoStep command

none_posted : (session event : List ℕ) (o : Option (List Pair)) → IsNone (posted session event o)
none_posted session event None = tt
none_posted session event (Some pairs) = tt

none_ticked : (o : Option ℕ) → IsNone (ticked o)
none_ticked None = tt
none_ticked (Some n) = tt

-- a fault, or what no fault stands before
none_one : (a : Bool) (x : Cause) (m : Said) → IsNone m → IsNone (if a then Err x else m)
none_one true x m h = tt
none_one false x m h = h

none_last : (a : Bool) (x : Cause) (m : Said) → IsNone m → IsNone (if a then m else Err x)
none_last true x m h = h
none_last false x m h = tt

none_chart : (name json : List ℕ) → IsNone (chart_line name json)
none_chart name json =
    none_one (length json == 0) Missing (if is_word name then asks (Install name json) else Err BadWord)
    (none_last (is_word name) BadWord (asks (Install name json)) tt)

none_start : (session chart more : List ℕ) → IsNone (start_line session chart more)
none_start session chart more =
    let last = if is_word session && is_word chart then asks (Start session chart) else Err BadWord in
    none_one (length chart == 0) Missing (if nat_lt 0 (length more) then Err Extra else last)
    (none_one (nat_lt 0 (length more)) Extra last
    (none_last (is_word session && is_word chart) BadWord (asks (Start session chart)) tt))

none_post : (session event pairs : List ℕ) → IsNone (post_line session event pairs)
none_post session event pairs =
    let last = posted session event (pairs_of pairs) in
    none_one (length event == 0) Missing (if is_word session && is_word event then last else Err BadWord)
    (none_last (is_word session && is_word event) BadWord last (none_posted session event (pairs_of pairs)))

none_tick : (number more : List ℕ) → IsNone (tick_line number more)
none_tick number more =
    let last = ticked (below (2 ^ 64) (number_of number)) in
    none_one (length number == 0) Missing (if nat_lt 0 (length more) then Err Extra else last)
    (none_one (nat_lt 0 (length more)) Extra last (none_ticked (below (2 ^ 64) (number_of number))))

none_cancel : (session more : List ℕ) → IsNone (cancel_line session more)
none_cancel session more =
    let last = if is_word session then asks (Cancel session) else Err BadWord in
    none_one (length session == 0) Missing (if nat_lt 0 (length more) then Err Extra else last)
    (none_one (nat_lt 0 (length more)) Extra last (none_last (is_word session) BadWord (asks (Cancel session)) tt))

none_said : (o : Option Form) (rest : List ℕ) → IsNone (said o rest)
none_said None rest = tt
none_said (Some form.Blank) rest = tt
none_said (Some form.Chart) rest = none_chart (first_word rest) (behind_word rest)
none_said (Some form.Start) rest =
    none_start (first_word rest) (first_word (behind_word rest)) (behind_word (behind_word rest))
none_said (Some form.Post) rest =
    none_post (first_word rest) (first_word (behind_word rest)) (behind_word (behind_word rest))
none_said (Some form.Tick) rest = none_tick (first_word rest) (behind_word rest)
none_said (Some form.Cancel) rest = none_cancel (first_word rest) (behind_word rest)
none_said (Some form.Client) rest = none_one (nat_lt 0 (length rest)) Extra (Ok Client) tt

none_meant : (line : List ℕ) → IsNone (meaning line)
unfolding meaning
none_meant line =
    let words = trimmed (without_return line) in
    none_last (is_utf8 line) NotUtf8 (words_say words) (none_said (form_of (first_word words)) (behind_word words))

-- a script without a step
abbrev IsFree : Spelled → Type 0
IsFree (Err fault) = Unit {0}
IsFree (Ok script) = HasNoStep script

free_before : (m : Meaning) (s : Spelled) → IsNone (Ok m) → IsFree s → IsFree (put_before m s)
free_before m (Err fault) h free = tt
free_before Blank (Ok s) h free = free
free_before Client (Ok s) h free = record { setup = tt; clients = (free.setup, free.clients) }
free_before (Asks command) (Ok s) h free = record { setup = (h, free.setup); clients = free.clients }

free_if : (b : Bool) (x y : Spelled) → IsFree x → IsFree y → IsFree (if b then x else y)
free_if true x y h k = h
free_if false x y h k = k

free_line : (number clients : ℕ) (m : Said) (rest : ℕ → Spelled) → IsNone m → ((n : ℕ) → IsFree (rest n))
    → IsFree (line_script number clients m rest)
free_line number clients (Err cause) rest h free = tt
free_line number clients (Ok Client) rest h free =
    free_if (nat_lt clients CLIENT_LIMIT) (put_before Client (rest (suc clients))) (faulty number TooManyClients)
    (free_before Client (rest (suc clients)) tt (free (suc clients))) tt
free_line number clients (Ok Blank) rest h free = free_before Blank (rest clients) tt (free clients)
free_line number clients (Ok (Asks command)) rest h free = free_before (Asks command) (rest clients) h (free clients)

free_from : (number clients : ℕ) (text : List (List ℕ)) → IsFree (script_from number clients text)
unfolding script_from
free_from number clients [] = record { setup = tt; clients = tt }
free_from number clients (line ∷ more) =
    free_line number clients (meaning line) (λ n. script_from (suc number) n more) (none_meant line) (λ n. free_from (suc number) n more)

free_of : (text : List ℕ) → IsFree (script_of text)
free_of text =
    free_if (nat_lt SCRIPT_TEXT_LIMIT (length text)) (faulty 0 TooLarge) (script_from 1 0 (lines text)) tt
    (free_from 1 0 (lines text))

-- no command of a script is a step
pub no_step_in : (text : List ℕ) (s : Script) → script_of text ≡ Ok s → HasNoStep s
no_step_in text s is = subst IsFree is (free_of text)
