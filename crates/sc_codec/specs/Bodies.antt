-- The body of a command in the journal. This host's own rule; SCXML keeps no journal. Numbers are big-endian, signed
-- ones in two's complement.
use Rattle.std.specs.Prelude.{◌≡◌, ℕ, ◌<◌, ◌^◌, if◌then◌else◌, IsTrue, List, [], ◌∷◌, ◌++◌, length}
use Rattle.std.specs.List.{flat_map, list_all, AllByRecursion}
use Rattle.sc_base.specs.Text.{IsWord, IsPlainName}
use Rattle.sc_frame.specs.Fields.{number_field, int_field, bytes_field}
use Rattle.sc_types.specs.Values.{fits_flat}
use Rattle.sc_types.specs.declared.command.Command.{Command}
use Rattle.sc_types.specs.declared.command.Command.TheVariants.{Install, Start, Post, Tick, Cancel, Step}
use Rattle.sc_types.specs.declared.value.Value.{Value}
use Rattle.sc_types.specs.declared.value.Value.TheFolds.{fold-Value}
use Rattle.sc_types.specs.declared.value.Value.TheOpen.{Value-F}

-- a name, after the 2 bytes of its length
abbrev pub name_field : List ℕ → List ℕ
name_field name = number_field 2 (length name) ++ name

-- a byte for the kind of a value, and what it holds. The items of a list stand after the 2 bytes of their count
abbrev pub value_step : Value-F (List ℕ) → List ℕ
value_step (Value-F.Bool b) = 0 ∷ (if b then 1 else 0) ∷ []
value_step (Value-F.Int n) = 1 ∷ int_field n
value_step (Value-F.Text text) = 2 ∷ bytes_field text
value_step (Value-F.List items) = 3 ∷ (number_field 2 (length items) ++ flat_map (λ item. item) items)

unfoldable pub value_field : Value → List ℕ
value_field v = fold-Value (List ℕ) value_step v

-- a name and a value
abbrev pub Pair : Type 0
Pair = List ℕ × Value

abbrev pub pair_field : Pair → List ℕ
pair_field p = name_field p.0 ++ value_field p.1

-- the pairs, after the 2 bytes of their count
abbrev pub pairs_field : List Pair → List ℕ
pairs_field pairs = number_field 2 (length pairs) ++ flat_map pair_field pairs

-- a byte for the kind of the command, and its parts
abbrev pub body_of : Command → List ℕ
body_of (Install name chart) = 1 ∷ (name_field name ++ bytes_field chart)
body_of (Start session chart) = 2 ∷ (name_field session ++ name_field chart)
body_of (Post session event pairs) = 3 ∷ (name_field session ++ (name_field event ++ pairs_field pairs))
body_of (Tick ticks) = 4 ∷ number_field 8 ticks
body_of (Cancel session) = 5 ∷ name_field session
body_of (Step session) = 6 ∷ name_field session

-- a name whose length has 2 bytes
abbrev pub IsShort : List ℕ → Type 0
IsShort name = length name < 2 ^ 16

-- pairs whose count has 2 bytes, and whose values are within the limits of values
pub record HasFittingPairs (pairs : List Pair) : Type 0 where
  pub count : length pairs < 2 ^ 16
  pub values : IsTrue (list_all (λ p. fits_flat p.1) pairs)

-- each part of the command has room in its field
abbrev pub IsEncodable : Command → Type 0
IsEncodable (Install name chart) = IsShort name × (length chart < 2 ^ 32)
IsEncodable (Start session chart) = IsShort session × IsShort chart
IsEncodable (Post session event pairs) = IsShort session × (IsShort event × HasFittingPairs pairs)
IsEncodable (Tick ticks) = Unit {0}
IsEncodable (Cancel session) = IsShort session
IsEncodable (Step session) = IsShort session

-- the parts have the forms of their types: each value of the type `Command` has
abbrev pub HasForms : Command → Type 0
HasForms (Install name chart) = IsWord name
HasForms (Start session chart) = IsWord session × IsWord chart
HasForms (Post session event pairs) = IsWord session × (IsWord event × AllByRecursion (λ p. IsPlainName p.0) pairs)
HasForms (Tick ticks) = ticks < 2 ^ 64
HasForms (Cancel session) = IsWord session
HasForms (Step session) = IsWord session

-- these bytes are the body of this command
pub record Spells (body : List ℕ) (c : Command) : Type 0 where
  pub same : body ≡ body_of c
  pub room : IsEncodable c
  pub forms : HasForms c
