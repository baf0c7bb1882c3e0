-- What the jobs of a pool leave of the host that they share. This host's own rule.
use Rattle.std.specs.Prelude.{ℕ, ◌+◌, ◌≡◌, ◌≢◌, ◌≤◌, true, Option, None, Some, List, [], ◌∷◌, ◌++◌, length}
use Rattle.std.specs.List.{AllByRecursion}
use Rattle.sc_book.specs.Books.{opening}
use Rattle.sc_book.specs.declared.doubt.Doubt.{Doubt}
use Rattle.sc_book.specs.declared.fault.CallFault.{CallFault}
use Rattle.sc_book.specs.declared.fault.CallFault.TheVariants.{Disk, Full, NoMemory}
use Rattle.sc_dev.specs.Causes.{Rose}
use Rattle.sc_types.specs.declared.command.Command.{Command}
use Rattle.sc_types.specs.declared.command.Command.TheVariants.{Step}
use Rattle.sc_types.specs.declared.history.Entry.{Entry}
use Rattle.sc_types.specs.declared.history.Who.{Who}
use Rattle.sc_types.specs.declared.history.Who.TheVariants.{Client, Worker}
use Rattle.sc_script.specs.declared.script.Script.{Script}
use Rattle.sc_machine.specs.Accepted.{accepted_steps, is_accepted}
use Rattle.sc_machine.specs.Commands.{answer}
use Rattle.sc_machine.specs.Histories.{replay}
use Rattle.sc_pool.specs.Serving.{IsPrefix, Serves, ServesInPart, commands_of, list_of}
use Rattle.sc_pool.specs.Sharing.{IsCalm, Seen, GoesOn}

-- the next command of a client's list; no other client makes one unless the set-up is whole
pub record IsNextOf (s : Script) (history : List Entry) (n : ℕ) (c : Command) : Type 0 where
  pub list : IsPrefix (commands_of (Client n) history ++ c ∷ []) (list_of s n)
  pub setup_whole : n ≢ 0 → commands_of (Client 0) history ≡ s.setup

-- A command comes next after some entries: a step of a worker, or the next command of a client.
abbrev pub IsNext : Script → List Entry → Who → Command → Type 0
IsNext s history Worker (Step session) = Unit {0}
IsNext s history Worker c = ⊥
IsNext s history (Client n) c = IsNextOf s history n c

-- A command in doubt came next after the entries that stood before it, and the host accepted it there.
pub record CameNext (s : Script) (start : Seen) (fresh : List Entry) (d : Doubt) : Type 0 where
  pub front : List Entry
  pub rest : List Entry
  pub whole : fresh ≡ front ++ rest
  pub before : d.before ≡ length start.entries + length front
  pub next : IsNext s front d.who d.command
  pub accepted : (past : List Command) → start.stands past
      → is_accepted (answer (replay (opening past) (start.entries ++ front)) d.command).reply ≡ true

-- what shows the worst fault that was met: the disk's faults rose, or the journal lacks room for some command
abbrev pub IsShown : Seen → Seen → Option CallFault → Type 0
IsShown start now None = Unit {0}
IsShown start now (Some Disk) = Rose start.faults now.faults
IsShown start now (Some Full) = now.tight
IsShown start now (Some NoMemory) = Unit {0}

-- want of memory is worse than a fault of the disk, and that than a full journal
abbrev pub rank : CallFault → ℕ
rank NoMemory = 3
rank Disk = 2
rank Full = 1

abbrev pub rank_of : Option CallFault → ℕ
rank_of None = 0
rank_of (Some fault) = rank fault

-- What the jobs of a pool leave of a host that began like this one, by the worst fault that they met: entries that
-- serve the script in part, with accepted steps within the budget. Without a fault they serve it, and where a session
-- is ready still, the steps are used up. No command is in doubt, and no call of the
-- disk failed, unless that was told or memory was wanting.
pub record Ran (s : Script) (budget : ℕ) (start now : Seen) (worst : Option CallFault) : Type 0 where
  pub fresh : List Entry
  pub begins : now.entries ≡ start.entries ++ fresh
  pub served : ServesInPart s fresh
  pub within : accepted_steps now.entries ≤ budget
  pub doubtful : List Doubt
  pub doubts : now.doubts ≡ start.doubts ++ doubtful
  pub came_next : AllByRecursion (CameNext s start fresh) doubtful
  pub goes_on : GoesOn start now
  pub shown : IsShown start now worst
  pub whole : worst ≡ None → Serves s fresh
  pub spent : worst ≡ None → now.ready ≡ true → accepted_steps now.entries ≡ budget
  pub sure : rank_of worst ≤ 1 → IsCalm start now
