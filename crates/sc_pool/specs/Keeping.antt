-- What a pool keeps behind its lock. Only private clauses cite these definitions.
use Rattle.std.specs.Prelude.{ℕ, ◌+◌, ◌≡◌, ◌<◌, ◌≤◌, ◌⊎◌, is_some, Bool, true, false, IsTrue, Option, None, Some, List, [], ◌∷◌, ◌++◌, slice_get}
use Rattle.std.specs.List.{list_all, AllByRecursion}
use Rattle.sc_book.specs.declared.doubt.Doubt.{Doubt}
use Rattle.sc_book.specs.declared.fault.CallFault.{CallFault}
use Rattle.sc_types.specs.declared.command.Command.{Command}
use Rattle.sc_types.specs.declared.history.Entry.{Entry}
use Rattle.sc_types.specs.declared.history.Who.TheVariants as who
use Rattle.sc_pool.specs.Plans.{HaveNoStep, IsPlaced, Planned, script_of}
use Rattle.sc_pool.specs.Pools.{IsShown, rank, rank_of}
use Rattle.sc_machine.specs.Accepted.{accepted_steps}
use Rattle.sc_pool.specs.Serving.{commands_of, is_served}
use Rattle.sc_pool.specs.Sharing.{IsCalm, GoesOn, IsSame, Seen}
use Rattle.sc_pool.specs.declared.client.Client.{Client}
use Rattle.sc_pool.specs.declared.locked.Round.{Round}
use Rattle.sc_pool.specs.declared.locked.Round.TheVariants as round

-- what contracts see behind the lock
pub record Progress : Type 0 where
  pub clients : List Client
  pub worst : Option CallFault
  pub entries : List Entry
  pub ready : Bool

abbrev pub progress_of : Seen → List Client → Option CallFault → Progress
progress_of seen clients worst = record {
  clients = clients;
  worst = worst;
  entries = seen.entries;
  ready = seen.ready;
}

-- a client has made the first commands of its list; where it met no fault, the others are left
pub record HasMade (number : ℕ) (script made : List Command) (client : Client) : Type 0 where
  pub numbered : client.number ≡ number
  pub rest : List Command
  pub whole : script ≡ made ++ rest
  pub left : client.failed ≡ false → client.left ≡ rest

abbrev pub Follows : ℕ → List Command → List Command → Option Client → Type 0
Follows number script made None = (script ≡ []) × (made ≡ [])
Follows number script made (Some client) = HasMade number script made client

abbrev pub IsFree : Option Client → Type 0
IsFree None = Unit {0}
IsFree (Some client) = client.failed ≡ false

pub record Keeps (p : Planned) (seen : Seen) (clients : List Client) (worst : Option CallFault) : Type 0 where
  pub no_step : HaveNoStep p.scripts
  pub fresh : List Entry
  pub begins : seen.entries ≡ p.start.entries ++ fresh
  pub follow : (place : ℕ) → Follows (place + 1) (script_of p.scripts place)
      (commands_of (who.Client (place + 1)) fresh) (slice_get clients place)
  pub setup : commands_of (who.Client 0) fresh ≡ []
  pub served : IsTrue (list_all is_served fresh)
  pub within : accepted_steps seen.entries ≤ p.budget
  pub doubtful : List Doubt
  pub doubts : seen.doubts ≡ p.start.doubts ++ doubtful
  pub placed : AllByRecursion (IsPlaced p fresh) doubtful
  pub goes_on : GoesOn p.start seen
  pub shown : IsShown p.start seen worst
  pub silent : worst ≡ None → (place : ℕ) → IsFree (slice_get clients place)
  pub sure : rank_of worst ≤ 1 → IsCalm p.start seen

-- a host as a pool begins with it
pub record StartsAt (start seen : Seen) : Type 0 where
  pub same : IsSame start seen
  pub goes_on : GoesOn start seen

-- the clients of these lists, numbered from one number on
abbrev pub clients_from : ℕ → List (List Command) → List Client
clients_from n [] = []
clients_from n (commands ∷ more) = record { number = n; left = commands; failed = false } ∷ clients_from (n + 1) more

-- the clients that a pool begins with
abbrev pub Begins : Planned → List Client → Type 0
Begins p clients = clients ≡ clients_from 1 p.scripts

-- no steps are left to make: no session is ready, or the budget is used up
abbrev pub IsSpent : ℕ → Progress → Type 0
IsSpent budget at = at.ready ≡ true → accepted_steps at.entries ≡ budget

-- the worse one of two faults
pub record IsWorst (noted : Option CallFault) (fault worst : CallFault) : Type 0 where
  pub one : (worst ≡ fault) ⊎ (noted ≡ Some worst)
  pub above_noted : rank_of noted ≤ rank worst
  pub above : rank fault ≤ rank worst

-- what a step that is left to make does
abbrev pub StepsOnce : ℕ → Progress → Progress → Round → Type 0
StepsOnce budget old new round.Made =
    (accepted_steps new.entries ≡ accepted_steps old.entries + 1) × (accepted_steps old.entries < budget)
    × (new.worst ≡ old.worst)
StepsOnce budget old new round.Nothing = IsSpent budget new
StepsOnce budget old new round.Failed = is_some new.worst ≡ true
