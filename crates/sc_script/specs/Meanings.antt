-- What a line of a script says, or the first thing that is wrong with it. This host's own rule.
use Rattle.std.specs.Prelude.{ℕ, ◌^◌, ◌==◌, ◌&&◌, nat_lt, if◌then◌else◌, Option, Some, None, Result, Ok, Err, List, [], ◌∷◌, length, find, codes}
use Rattle.std.specs.Str.{is_utf8, bytes_eq}
use Rattle.sc_base.specs.Text.{is_word}
use Rattle.sc_types.specs.Tokens.{number_of}
use Rattle.sc_expr.specs.Numbers.{below}
use Rattle.sc_types.specs.declared.command.Command.{Command}
use Rattle.sc_types.specs.declared.command.Command.TheVariants.{Install, Start, Post, Tick, Cancel}
use Rattle.sc_script.specs.Lines.{without_return, trimmed, first_word, behind_word}
use Rattle.sc_script.specs.Pairs.{Pair, pairs_of}
use Rattle.sc_script.specs.declared.fault.Cause.{Cause}
use Rattle.sc_script.specs.declared.fault.Cause.TheVariants.{NotUtf8, UnknownWord, Missing, Extra, BadWord, BadValue, BadNumber}
use Rattle.sc_script.specs.declared.meaning.Form.{Form}
use Rattle.sc_script.specs.declared.meaning.Form.TheVariants as form
use Rattle.sc_script.specs.declared.meaning.Meaning.{Meaning}
use Rattle.sc_script.specs.declared.meaning.Meaning.TheVariants.{Blank, Client, Asks}

abbrev pub Said : Type 0
Said = Result Meaning Cause

abbrev pub asks : Command → Said
asks command = Ok (Asks command)

-- `chart NAME JSON`, of which JSON is the rest of the line
abbrev pub chart_line : List ℕ → List ℕ → Said
chart_line name json =
    if length json == 0 then Err Missing
    else if is_word name then asks (Install name json)
    else Err BadWord

-- `start SESSION NAME`
abbrev pub start_line : List ℕ → List ℕ → List ℕ → Said
start_line session chart more =
    if length chart == 0 then Err Missing
    else if nat_lt 0 (length more) then Err Extra
    else if is_word session && is_word chart then asks (Start session chart)
    else Err BadWord

abbrev pub posted : List ℕ → List ℕ → Option (List Pair) → Said
posted session event None = Err BadValue
posted session event (Some pairs) = asks (Post session event pairs)

-- `post SESSION EVENT`, and then the pairs
abbrev pub post_line : List ℕ → List ℕ → List ℕ → Said
post_line session event pairs =
    if length event == 0 then Err Missing
    else if is_word session && is_word event then posted session event (pairs_of pairs)
    else Err BadWord

abbrev pub ticked : Option ℕ → Said
ticked None = Err BadNumber
ticked (Some ticks) = asks (Tick ticks)

-- `tick NUMBER`
abbrev pub tick_line : List ℕ → List ℕ → Said
tick_line number more =
    if length number == 0 then Err Missing
    else if nat_lt 0 (length more) then Err Extra
    else ticked (below (2 ^ 64) (number_of number))

-- `cancel SESSION`
abbrev pub cancel_line : List ℕ → List ℕ → Said
cancel_line session more =
    if length session == 0 then Err Missing
    else if nat_lt 0 (length more) then Err Extra
    else if is_word session then asks (Cancel session)
    else Err BadWord

-- `client`
abbrev pub client_line : List ℕ → Said
client_line more = if nat_lt 0 (length more) then Err Extra else Ok Client

-- the first word of the lines of a form; a line without words is blank
abbrev pub form_word : Form → List ℕ
form_word form.Post = codes "post"
form_word form.Start = codes "start"
form_word form.Chart = codes "chart"
form_word form.Tick = codes "tick"
form_word form.Cancel = codes "cancel"
form_word form.Client = codes "client"
form_word form.Blank = codes ""

abbrev pub forms : List Form
forms = form.Post ∷ form.Start ∷ form.Chart ∷ form.Tick ∷ form.Cancel ∷ form.Client ∷ form.Blank ∷ []

-- the form of the lines that begin with this word
abbrev pub form_of : List ℕ → Option Form
form_of word = find (λ form. bytes_eq word (form_word form)) forms

-- what a line of a form says, by what stands behind its first word
abbrev pub said : Option Form → List ℕ → Said
said None rest = Err UnknownWord
said (Some form.Blank) rest = Ok Blank
said (Some form.Chart) rest = chart_line (first_word rest) (behind_word rest)
said (Some form.Start) rest =
    start_line (first_word rest) (first_word (behind_word rest)) (behind_word (behind_word rest))
said (Some form.Post) rest =
    post_line (first_word rest) (first_word (behind_word rest)) (behind_word (behind_word rest))
said (Some form.Tick) rest = tick_line (first_word rest) (behind_word rest)
said (Some form.Cancel) rest = cancel_line (first_word rest) (behind_word rest)
said (Some form.Client) rest = client_line rest

-- what the words of a line say
abbrev pub words_say : List ℕ → Said
words_say words = said (form_of (first_word words)) (behind_word words)

-- what a line says
unfoldable pub meaning : List ℕ → Said
meaning line = if is_utf8 line then words_say (trimmed (without_return line)) else Err NotUtf8
