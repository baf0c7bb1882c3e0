-- The run of a script: on one thread, or with workers. This host's own rule.
use Rattle.std.specs.Prelude.{ℕ, ◌+◌, ◌≡◌, ◌≢◌, ◌≤◌, true, Option, Some, None, List, [], ◌∷◌, ◌++◌, map}
use Rattle.std.proofs.Common.{zero, suc}
use Rattle.sc_types.specs.declared.command.Command.{Command}
use Rattle.sc_types.specs.declared.command.Command.TheVariants.{Step}
use Rattle.sc_types.specs.declared.history.Entry.{Entry}
use Rattle.sc_types.specs.declared.history.Who.{Who}
use Rattle.sc_types.specs.declared.history.Who.TheVariants.{Client, Worker}
use Rattle.sc_types.specs.declared.host.HostImage.{HostImage}
use Rattle.sc_script.specs.declared.script.Script.{Script}
use Rattle.sc_pool.specs.Pools.{IsNext}
use Rattle.sc_pool.specs.Serving.{Serves, ServesInPart}
use Rattle.sc_book.specs.Books.{opening}
use Rattle.sc_machine.specs.Accepted.{accepted_steps, is_accepted}
use Rattle.sc_machine.specs.Commands.{answer}
use Rattle.sc_machine.specs.Cues.{ready}
use Rattle.sc_machine.specs.Histories.{IsLegal, IsAtMostOnce, Tells, replay}
use Rattle.sc_machine.specs.Hosts.{empty_host}

-- a command, and the number of the client that makes it
abbrev pub Made : Type 0
Made = ℕ × Command

abbrev pub of_client : ℕ → List Command → List Made
of_client n cs = map (λ (c : Command). (n, c)) cs

abbrev pub of_clients : ℕ → List (List Command) → List Made
of_clients n [] = []
of_clients n (cs ∷ more) = of_client n cs ++ of_clients (n + 1) more

-- one thread makes the commands of the set-up, which is client 0, and then those of one client after another
abbrev pub in_turn : Script → List Made
in_turn s = of_client 0 s.setup ++ of_clients 1 s.clients

-- what comes next: a step of a session, a command of the script, or nothing more
pub data Next : Type 0 where
  steps : List ℕ → Next
  makes : Made → List Made → Next
  over : Next

abbrev pub of_script : List Made → Next
of_script [] = over
of_script (c ∷ cs) = makes c cs

abbrev pub of_ready : Option (List ℕ) → List Made → Next
of_ready None cs = of_script cs
of_ready (Some session) cs = steps session

-- the ready session that was started first steps, while steps are left; else the script goes on
abbrev pub next : HostImage → List Made → ℕ → Next
next g cs zero = of_script cs
next g cs (suc budget) = of_ready (ready g) cs

-- an entry of this caller and command, which tells what the host answers
pub record Enters (g : HostImage) (by : Who) (c : Command) (e : Entry) : Type 0 where
  pub who : e.who ≡ by
  pub command : e.command ≡ c
  pub told : Tells e (answer g e.command)

abbrev pub pred : ℕ → ℕ
pred zero = zero
pred (suc n) = n

-- the first entry is what comes next, and the others follow from the host, the script and the budget that it leaves
abbrev pub Continues : Next → HostImage → List Made → ℕ → Entry → (HostImage → List Made → ℕ → Type 0) → Type 0
Continues (steps session) g cs budget e Rest =
    Enters g Worker (Step session) e × Rest (answer g e.command).host cs (pred budget)
Continues (makes c rest) g cs budget e Rest =
    Enters g (Client c.0) c.1 e × Rest (answer g e.command).host rest budget
Continues over g cs budget e Rest = ⊥

-- the run of the commands, with at most so many steps
abbrev pub IsRun : HostImage → List Made → ℕ → List Entry → Type 0
IsRun g cs budget [] = next g cs budget ≡ over
IsRun g cs budget (e ∷ es) = Continues (next g cs budget) g cs budget e (λ g' cs' budget'. IsRun g' cs' budget' es)

-- the first entries of the run of the commands
pub record IsFront (g : HostImage) (cs : List Made) (budget : ℕ) (history : List Entry) : Type 0 where
  pub rest : List Entry
  pub run : IsRun g cs budget (history ++ rest)

-- the entries of commands that were made before; who made them is not known any more
abbrev pub entries_of : HostImage → List Command → List Entry
entries_of g [] = []
entries_of g (c ∷ cs) =
    record { who = Worker; command = c; reply = (answer g c).reply; logs = (answer g c).logs; sent = (answer g c).sent }
    ∷ entries_of (answer g c).host cs

-- The promise for the run of a script with so many workers and at most so many steps, on a host that these commands
-- made: what was done is one legal history; each accepted event is consumed at most once, those included that were
-- given before; and each client is served in order, as far as the run goes. Without workers it is the run of one
-- thread, as far as it goes.
pub record IsHistoryOf (past : List Command) (s : Script) (workers budget : ℕ) (history : List Entry) : Type 0 where
  pub legal : IsLegal (opening past) history
  pub once : IsAtMostOnce (entries_of empty_host past ++ history)
  pub served : ServesInPart s history
  pub within : accepted_steps history ≤ budget
  pub run : workers ≡ 0 → IsFront (opening past) (in_turn s) budget history

-- And where the run came to its end: the script is served, and where a session is ready then, the steps are used up.
pub record IsWholeHistoryOf (past : List Command) (s : Script) (workers budget : ℕ)
    (history : List Entry) : Type 0 where
  pub part : IsHistoryOf past s workers budget history
  pub served : Serves s history
  pub spent : ready (replay (opening past) history) ≢ None → accepted_steps history ≡ budget
  pub run : workers ≡ 0 → IsRun (opening past) (in_turn s) budget history

-- The command of this entry comes next: in the run of one thread, or as a step of a worker or the next command of a
-- client. The host would accept it.
pub record ComesNext (past : List Command) (s : Script) (workers budget : ℕ) (history : List Entry)
    (e : Entry) : Type 0 where
  pub run : workers ≡ 0 → IsFront (opening past) (in_turn s) budget (history ++ e ∷ [])
  pub next : workers ≢ 0 → IsNext s history e.who e.command
  pub accepted : is_accepted (answer (replay (opening past) history) e.command).reply ≡ true
