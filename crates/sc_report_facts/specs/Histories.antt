-- The histories that their reports tell apart. This host's own rule.
use Rattle.std.specs.Prelude.{ℕ, ◌<◌, ◌^◌, ◌==◌, Bool, true, not, IsTrue, List}
use Rattle.std.specs.List.{list_all, AllByRecursion}
use Rattle.sc_base.specs.Text.{IsWord, IsPlainName, is_int}
use Rattle.sc_types.specs.declared.command.Command.{Command}
use Rattle.sc_types.specs.declared.command.Command.TheVariants.{Install, Start, Post, Tick, Cancel, Step}
use Rattle.sc_types.specs.declared.history.Entry.{Entry}
use Rattle.sc_types.specs.declared.history.Who.{Who}
use Rattle.sc_types.specs.declared.history.Who.TheVariants.{Client, Worker}
use Rattle.sc_types.specs.declared.host.HostImage.{HostImage}
use Rattle.sc_types.specs.declared.value.Value.{Value}
use Rattle.sc_types.specs.declared.value.Value.TheFolds.{fold-Value}
use Rattle.sc_types.specs.declared.value.Value.TheOpen.{Value-F}
use Rattle.sc_machine.specs.Histories.{IsLegal}

-- What the types of an entry say of its command and of its maker. Here a name is a list of any numbers, and a number
-- may have any size: a name with a space in it would read as two names, and of a number std writes the last 64 digits.

abbrev pub ints_step : Value-F Bool → Bool
ints_step (Value-F.Int n) = is_int n
ints_step (Value-F.List items) = list_all (λ item. item) items
ints_step v = true

-- each number in a value has 64 bits
unfoldable pub has_ints : Value → Bool
has_ints v = fold-Value Bool ints_step v

pub record IsTypedPair (p : List ℕ × Value) : Type 0 where
  pub name : IsPlainName p.0
  pub value : IsTrue (has_ints p.1)

abbrev pub IsTypedCommand : Command → Type 0
IsTypedCommand (Install name chart) = IsWord name
IsTypedCommand (Start session chart) = IsWord session × IsWord chart
IsTypedCommand (Post session event pairs) = IsWord session × (IsWord event × AllByRecursion IsTypedPair pairs)
IsTypedCommand (Tick ticks) = ticks < 2 ^ 64
IsTypedCommand (Cancel session) = IsWord session
IsTypedCommand (Step session) = IsWord session

abbrev pub IsTypedWho : Who → Type 0
IsTypedWho (Client n) = n < 2 ^ 32
IsTypedWho Worker = Unit {0}

pub record IsTypedEntry (e : Entry) : Type 0 where
  pub who : IsTypedWho e.who
  pub command : IsTypedCommand e.command

-- the text of a chart has no line feed, as in every script
abbrev pub IsOneLine : Command → Type 0
IsOneLine (Install name chart) = IsTrue (list_all (λ b. not (b == 10)) chart)
IsOneLine c = Unit {0}

-- a legal history from this host, whose charts stand on one line each
pub record IsHistory (g : HostImage) (history : List Entry) : Type 0 where
  pub legal : IsLegal g history
  pub typed : AllByRecursion IsTypedEntry history
  pub charts : AllByRecursion (λ e. IsOneLine e.command) history
