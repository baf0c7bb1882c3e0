-- What the clients and workers of a pool are to make, and what they leave. Only private clauses cite these definitions.
use Rattle.std.specs.Prelude.{ℕ, ◌+◌, ◌≡◌, ◌≤◌, true, false, IsTrue, Option, None, unwrap_or, List, [], ◌∷◌, ◌++◌, length, slice_get}
use Rattle.std.specs.List.{list_all, AllByRecursion}
use Rattle.sc_book.specs.Books.{opening}
use Rattle.sc_book.specs.declared.doubt.Doubt.{Doubt}
use Rattle.sc_book.specs.declared.fault.CallFault.{CallFault}
use Rattle.sc_types.specs.declared.command.Command.{Command}
use Rattle.sc_types.specs.declared.command.Command.TheVariants.{Step}
use Rattle.sc_types.specs.declared.history.Entry.{Entry}
use Rattle.sc_types.specs.declared.history.Who.{Who}
use Rattle.sc_types.specs.declared.history.Who.TheVariants.{Client, Worker}
use Rattle.sc_script.specs.Steps.{IsNoStep}
use Rattle.sc_machine.specs.Accepted.{accepted_steps, is_accepted}
use Rattle.sc_machine.specs.Commands.{answer}
use Rattle.sc_machine.specs.Histories.{replay}
use Rattle.sc_pool.specs.Pools.{IsShown, rank_of}
use Rattle.sc_pool.specs.Serving.{IsPrefix, commands_of, is_served}
use Rattle.sc_pool.specs.Sharing.{IsCalm, Seen, GoesOn}

-- the commands of the client of a place; its number is one more
abbrev pub script_of : List (List Command) → ℕ → List Command
script_of scripts place = unwrap_or (slice_get scripts place) []

-- the lists of clients have no steps: those are the workers'
abbrev pub HaveNoStep : List (List Command) → Type 0
HaveNoStep scripts = AllByRecursion (AllByRecursion IsNoStep) scripts

-- What the jobs of a pool make: the commands of each client, and so many accepted steps at most, from a host on.
pub record Planned : Type 1 where
  pub scripts : List (List Command)
  pub budget : ℕ
  pub start : Seen

abbrev pub planned : List (List Command) → ℕ → Seen → Planned
planned scripts budget start = record { scripts = scripts; budget = budget; start = start }

-- A command comes next after some entries: a step of a worker, or the next command of a client.
abbrev pub ComesNext : List (List Command) → List Entry → Who → Command → Type 0
ComesNext scripts front Worker (Step session) = Unit {0}
ComesNext scripts front Worker c = ⊥
ComesNext scripts front (Client n) c =
    (place : ℕ) × (n ≡ place + 1) × IsPrefix (commands_of (Client n) front ++ c ∷ []) (script_of scripts place)

-- A command in doubt came next after the entries that stood before it, and the host accepted it there.
pub record IsPlaced (p : Planned) (fresh : List Entry) (d : Doubt) : Type 0 where
  pub front : List Entry
  pub rest : List Entry
  pub whole : fresh ≡ front ++ rest
  pub before : d.before ≡ length p.start.entries + length front
  pub next : ComesNext p.scripts front d.who d.command
  pub accepted : (past : List Command) → p.start.stands past
      → is_accepted (answer (replay (opening past) (p.start.entries ++ front)) d.command).reply ≡ true

-- What the clients and workers leave, by the worst fault that they met: entries were added, of each client the first
-- commands of its list in order, and of workers accepted steps, within the budget. Without a fault each list is made
-- whole, and where a session is ready still, the steps are used up. No command is in doubt, and no call of the disk
-- failed, unless that is the worst fault or memory was wanting.
pub record Finished (p : Planned) (now : Seen) (worst : Option CallFault) : Type 0 where
  pub fresh : List Entry
  pub begins : now.entries ≡ p.start.entries ++ fresh
  pub lists : (place : ℕ) → IsPrefix (commands_of (Client (place + 1)) fresh) (script_of p.scripts place)
  pub setup : commands_of (Client 0) fresh ≡ []
  pub served : IsTrue (list_all is_served fresh)
  pub within : accepted_steps now.entries ≤ p.budget
  pub doubtful : List Doubt
  pub doubts : now.doubts ≡ p.start.doubts ++ doubtful
  pub placed : AllByRecursion (IsPlaced p fresh) doubtful
  pub goes_on : GoesOn p.start now
  pub shown : IsShown p.start now worst
  pub whole : worst ≡ None → (place : ℕ) → commands_of (Client (place + 1)) fresh ≡ script_of p.scripts place
  pub spent : worst ≡ None → now.ready ≡ true → accepted_steps now.entries ≡ p.budget
  pub sure : rank_of worst ≤ 1 → IsCalm p.start now

-- before a plan is picked
abbrev pub nothing_planned : Planned
nothing_planned = record {
  scripts = [];
  budget = 0;
  start = record {
    opened = 0;
    entries = [];
    doubts = [];
    ready = false;
    faults = 0;
    identity = 0;
    tight = Unit {0};
    stands = λ past. Unit {0};
  };
}
