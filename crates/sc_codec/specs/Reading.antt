-- Reading a body from left to right: a reader gives what stands in front and the bytes behind it. Only private clauses
-- and proofs cite this file; `Bodies` says what a body is.
use Rattle.std.specs.Prelude.{◌≡◌, ℕ, zero, suc, ◌==◌, nat_le, true, false, if◌then◌else◌, Option, Some, None, option_map, option_and_then, Result, Ok, Err, List, [], ◌∷◌, length, take, drop}
use Rattle.sc_base.specs.Text.{is_word, is_plain_name}
use Rattle.sc_codec.specs.Bodies.{Pair}
use Rattle.sc_codec.specs.declared.fault.CodecFault.{CodecFault}
use Rattle.sc_codec.specs.declared.fault.CodecFault.TheVariants as faults
use Rattle.sc_frame.specs.Fields.{number_at, int_at}
use Rattle.sc_types.specs.Values.{fits_flat}
use Rattle.sc_types.specs.declared.command.Command.{Command}
use Rattle.sc_types.specs.declared.command.Command.TheVariants.{Install, Start, Post, Tick, Cancel, Step}
use Rattle.sc_types.specs.declared.value.Value.{Value}
use Rattle.sc_types.specs.declared.value.Value.TheVariants.{Bool as Truth, Int, Text, List as Listed}

infixl 10 ◌>>=◌
abbrev pub ◌>>=◌ : {A B : Type 0} → Option A → (A → Option B) → Option B
o >>= f = option_and_then f o

-- what a call returned, seen by view, is what reading gives, unless memory ran out
abbrev pub Fails : {Y : Type 0} → CodecFault → Option Y → Type 0
Fails faults.NotCommand read = read ≡ None
Fails faults.NoMemory read = Unit {0}

abbrev pub Gives : {X Y : Type 0} → (X → Y) → Result X CodecFault → Option Y → Type 0
Gives view (Ok x) read = read ≡ Some (view x)
Gives view (Err e) read = Fails e read

-- what stands in front, and the bytes behind it; none where it does not stand there
abbrev pub Reader : Type 0 → Type 0
Reader A = List ℕ → Option (A × List ℕ)

-- what was read at the front, and the bytes behind the place after it
abbrev pub from_front : {A : Type 0} → List ℕ → Option (A × ℕ) → Option (A × List ℕ)
from_front bytes found = option_map (λ f. (f.0, drop f.1 bytes)) found

-- ---- fields

unfoldable pub number_from : ℕ → Reader ℕ
number_from size bytes = from_front bytes (number_at size bytes 0)

-- so many bytes
unfoldable pub part_from : ℕ → Reader (List ℕ)
part_from size bytes = if nat_le size (length bytes) then Some (take size bytes, drop size bytes) else None

-- the bytes behind their length, which has so many bytes itself
unfoldable pub sized_from : ℕ → Reader (List ℕ)
sized_from width bytes = do
  size ← number_from width bytes
  part_from size.0 size.1

-- one thing, and another behind it
abbrev pub both : {A B : Type 0} → Reader A → Reader B → Reader (A × B)
both read other bytes = do
  a ← read bytes
  b ← other a.1
  Some ((a.0, b.0), b.1)

-- what is made of what was read
abbrev pub made : {A B : Type 0} → (A → B) → Option (A × List ℕ) → Option (B × List ℕ)
made make found = option_map (λ x. (make x.0, x.1)) found

-- ---- names

unfoldable pub word_from : Reader (List ℕ)
word_from bytes = do
  name ← sized_from 2 bytes
  if is_word name.0 then Some name else None

unfoldable pub plain_name_from : Reader (List ℕ)
plain_name_from bytes = do
  name ← sized_from 2 bytes
  if is_plain_name name.0 then Some name else None

-- ---- lists

-- so many things, one behind the other
unfoldable pub many_from : {A : Type 0} → Reader A → ℕ → Reader (List A)
many_from read zero bytes = Some ([], bytes)
many_from read (suc n) bytes = do
  first ← read bytes
  others ← many_from read n first.1
  Some (first.0 ∷ others.0, others.1)

-- as many as the 2 bytes before them say
abbrev pub counted_from : {A : Type 0} → Reader A → Reader (List A)
counted_from read bytes = do
  count ← number_from 2 bytes
  many_from read count.0 count.1

-- ---- values

unfoldable pub truth_from : Reader Value
truth_from [] = None
truth_from (b ∷ rest) =
    if b == 0 then Some (Truth false, rest) else (if b == 1 then Some (Truth true, rest) else None)

unfoldable pub int_from : Reader Value
int_from bytes = made (λ n. Int n) (from_front bytes (int_at bytes 0))

unfoldable pub text_from : Reader Value
text_from bytes = made (λ text. Text text) (sized_from 4 bytes)

-- an integer or a text, behind the byte of its kind
unfoldable pub item_of_kind : ℕ → Reader Value
item_of_kind kind rest = if kind == 1 then int_from rest else (if kind == 2 then text_from rest else None)

unfoldable pub item_from : Reader Value
item_from [] = None
item_from (kind ∷ rest) = item_of_kind kind rest

unfoldable pub list_from : Reader Value
list_from bytes = made (λ items. Listed items) (counted_from item_from bytes)

-- a value of any size
unfoldable pub shape_from : Reader Value
shape_from [] = None
shape_from (kind ∷ rest) =
    if kind == 0 then truth_from rest else (if kind == 3 then list_from rest else item_of_kind kind rest)

unfoldable pub value_from : Reader Value
value_from bytes = do
  value ← shape_from bytes
  if fits_flat value.0 then Some value else None

unfoldable pub pair_from : Reader Pair
pair_from bytes = both plain_name_from value_from bytes

unfoldable pub pairs_from : Reader (List Pair)
pairs_from bytes = counted_from pair_from bytes

-- ---- commands

unfoldable pub install_from : Reader Command
install_from bytes = made (λ x. Install x.0 x.1) (both word_from (sized_from 4) bytes)

unfoldable pub start_from : Reader Command
start_from bytes = made (λ x. Start x.0 x.1) (both word_from word_from bytes)

unfoldable pub post_from : Reader Command
post_from bytes = made (λ x. Post x.0 x.1.0 x.1.1) (both word_from (both word_from pairs_from) bytes)

unfoldable pub tick_from : Reader Command
tick_from bytes = made (λ ticks. Tick ticks) (number_from 8 bytes)

unfoldable pub cancel_from : Reader Command
cancel_from bytes = made (λ session. Cancel session) (word_from bytes)

unfoldable pub step_from : Reader Command
step_from bytes = made (λ session. Step session) (word_from bytes)

unfoldable pub command_of_kind : ℕ → Reader Command
command_of_kind kind rest =
    if kind == 1 then install_from rest
    else (if kind == 2 then start_from rest
    else (if kind == 3 then post_from rest
    else (if kind == 4 then tick_from rest
    else (if kind == 5 then cancel_from rest
    else (if kind == 6 then step_from rest else None)))))

unfoldable pub command_from : Reader Command
command_from [] = None
command_from (kind ∷ rest) = command_of_kind kind rest

-- the command that all of the bytes are
unfoldable pub command_of : List ℕ → Option Command
command_of bytes = do
  command ← command_from bytes
  if length command.1 == 0 then Some command.0 else None
