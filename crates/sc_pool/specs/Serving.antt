-- Whose commands a history has, and how a history serves a script. This host's own rule.
use Rattle.std.specs.Prelude.{ℕ, ◌≡◌, ◌==◌, ◌&&◌, Bool, true, false, not, IsTrue, List, [], ◌∷◌, ◌++◌, map, filter, slice_get, unwrap_or}
use Rattle.std.specs.List.{list_all, list_any}
use Rattle.std.proofs.Common.{zero, suc}
use Rattle.sc_script.specs.declared.script.Script.{Script}
use Rattle.sc_types.specs.declared.command.Command.{Command}
use Rattle.sc_types.specs.declared.command.Reply.{Reply}
use Rattle.sc_types.specs.declared.history.Entry.{Entry}
use Rattle.sc_types.specs.declared.history.Who.{Who}
use Rattle.sc_types.specs.declared.history.Who.TheVariants.{Client, Worker}
use Rattle.sc_machine.specs.Accepted.{is_accepted_step}

abbrev pub is_of : Who → Who → Bool
is_of Worker Worker = true
is_of (Client m) (Client n) = m == n
is_of who other = false

-- the commands of a client or of the workers, in order
abbrev pub commands_of : Who → List Entry → List Command
commands_of who history = map (λ (e : Entry). e.command) (filter (λ (e : Entry). is_of who e.who) history)

-- an entry is of a client, or it is an accepted step of a worker
abbrev pub served_by : Who → Command → Reply → Bool
served_by Worker c reply = is_accepted_step c reply
served_by (Client n) c reply = true

abbrev pub is_served : Entry → Bool
is_served e = served_by e.who e.command e.reply

-- the items of the first list, and others behind them
pub record IsPrefix {A : Type 0} (xs ys : List A) : Type 0 where
  pub rest : List A
  pub whole : ys ≡ xs ++ rest

-- the commands that a script has for a client
abbrev pub list_of : Script → ℕ → List Command
list_of s zero = s.setup
list_of s (suc n) = unwrap_or (slice_get s.clients n) []

abbrev pub is_setup : Entry → Bool
is_setup e = is_of (Client 0) e.who

abbrev pub is_later : Who → Bool
is_later Worker = false
is_later (Client n) = not (n == 0)

abbrev pub is_of_later : Entry → Bool
is_of_later e = is_later e.who

-- no entry of the set-up stands behind one of another client
abbrev pub is_setup_first : List Entry → Bool
is_setup_first [] = true
is_setup_first (e ∷ es) = not (is_of_later e && list_any is_setup es) && is_setup_first es

-- each client's commands are made once and in order, those of the set-up before all others, and workers make accepted
-- steps alone
pub record Serves (s : Script) (history : List Entry) : Type 0 where
  pub lists : (n : ℕ) → commands_of (Client n) history ≡ list_of s n
  pub setup : IsTrue (is_setup_first history)
  pub others : IsTrue (list_all is_served history)

-- The same as far as it goes: the first commands of each client, and no other client makes one unless the set-up is
-- whole.
pub record ServesInPart (s : Script) (history : List Entry) : Type 0 where
  pub lists : (n : ℕ) → IsPrefix (commands_of (Client n) history) (list_of s n)
  pub setup_whole : IsTrue (list_any is_of_later history) → commands_of (Client 0) history ≡ s.setup
  pub setup : IsTrue (is_setup_first history)
  pub others : IsTrue (list_all is_served history)
