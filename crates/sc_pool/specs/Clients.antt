-- The clients of a pool, with the commands that each has still to make. Only private clauses cite these definitions.
use Rattle.std.specs.Prelude.{ℕ, ◌<◌, ◌≡◌, true, false, Option, None, Some, List, [], ◌∷◌, length, slice_get, slice_set}
use Rattle.std.specs.Option.{option_map_or}
use Rattle.sc_types.specs.declared.command.Command.{Command}
use Rattle.sc_pool.specs.declared.client.Client.{Client}
use Rattle.sc_pool.specs.declared.client.Taken.{Taken}
use Rattle.sc_pool.specs.declared.locked.Round.{Round}
use Rattle.sc_pool.specs.declared.locked.Round.TheVariants.{Made}
use Rattle.sc_pool.specs.declared.client.Taken.TheVariants.{Next, Over, Failed}

-- the next command of the client at a place is taken from its list
pub record TakesNext (place number : ℕ) (c : Command) (old new : List Client) : Type 0 where
  pub client : Client
  pub there : slice_get old place ≡ Some client
  pub numbered : client.number ≡ number
  pub free : client.failed ≡ false
  pub rest : List Command
  pub left : client.left ≡ c ∷ rest
  pub set : new ≡ slice_set old place (record client { left = rest })

-- the client at a place has no more to make, or there is none
abbrev pub HasNone : Option Client → Type 0
HasNone None = Unit {0}
HasNone (Some client) = client.left ≡ []

-- a client that met a fault
abbrev pub HasFailed : Option Client → Type 0
HasFailed None = ⊥
HasFailed (Some client) = client.failed ≡ true

abbrev pub Takes : ℕ → List Client → List Client → Taken → Type 0
Takes place old new (Next number c) = TakesNext place number c old new
Takes place old new Over = (new ≡ old) × HasNone (slice_get old place)
Takes place old new Failed = (new ≡ old) × HasFailed (slice_get old place)

-- the client at a place is marked as one that met a fault
pub record Marks (place : ℕ) (old new : List Client) : Type 0 where
  pub client : Client
  pub there : slice_get old place ≡ Some client
  pub set : new ≡ slice_set old place (record client { failed = true })

-- each client that met no fault has made all of its commands
abbrev pub IsMade : Option Client → Type 0
IsMade None = Unit {0}
IsMade (Some client) = client.failed ≡ false → client.left ≡ []

abbrev pub AllMade : List Client → Type 0
AllMade clients = (place : ℕ) → IsMade (slice_get clients place)

-- a client that has made all of its commands, or met a fault, goes on so
abbrev pub KeepsMade : List Client → List Client → Type 0
KeepsMade old new = (length new ≡ length old)
    × ((place : ℕ) → IsMade (slice_get old place) → IsMade (slice_get new place))

-- how many commands the client at a place has still to make
abbrev pub left_at : List Client → ℕ → ℕ
left_at clients place = option_map_or (λ (client : Client). length client.left) (slice_get clients place) 0

-- what a round of the client at a place does: it makes a command, or has none more to make
abbrev pub Rounds : ℕ → List Client → List Client → Round → Type 0
Rounds place old new Made = (left_at new place < left_at old place) × KeepsMade old new
Rounds place old new round = IsMade (slice_get new place) × KeepsMade old new
