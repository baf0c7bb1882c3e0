-- Histories of the host machine. This host's own rule.
use Rattle.std.specs.Prelude.{ℕ, ◌≡◌, ◌≤◌, ◌==◌, ◌&&◌, ◌||◌, Bool, false, Option, Some, None, IfSome, IsTrue, List, [], ◌∷◌, ◌++◌, count_by}
use Rattle.std.specs.List.{list_any}
use Rattle.std.specs.Str.{bytes_eq}
use Rattle.sc_types.specs.declared.command.Command.{Command}
use Rattle.sc_types.specs.declared.command.Command.TheVariants.{Post, Step}
use Rattle.sc_types.specs.declared.command.Reply.{Reply}
use Rattle.sc_types.specs.declared.command.Reply.TheVariants.{Posted, Stepped}
use Rattle.sc_types.specs.declared.history.Delivery.{Delivery}
use Rattle.sc_types.specs.declared.history.Delivery.TheVariants.{Queued}
use Rattle.sc_types.specs.declared.history.Entry.{Entry}
use Rattle.sc_types.specs.declared.host.HostImage.{HostImage}
use Rattle.sc_types.specs.declared.session.CueName.TheVariants.{External}
use Rattle.sc_machine.specs.Commands.{Answer, answer}

-- an entry tells what the host answered
pub record Tells (e : Entry) (a : Answer) : Type 0 where
  pub reply : e.reply ≡ a.reply
  pub logs : e.logs ≡ a.logs
  pub sent : e.sent ≡ a.sent

-- each entry tells what the host answers that the entries before it leave
abbrev pub IsLegal : HostImage → List Entry → Type 0
IsLegal g [] = Unit {0}
IsLegal g (e ∷ es) = Tells e (answer g e.command) × IsLegal (answer g e.command).host es

-- the host that a history leaves
abbrev pub replay : HostImage → List Entry → HostImage
replay g [] = g
replay g (e ∷ es) = replay (answer g e.command).host es

-- the number of the external event that a step consumed, and the session that took it

abbrev pub consumed_in : Command → Reply → Option (ℕ × List ℕ)
consumed_in (Step session) (Stepped (External n)) = Some (n, session)
consumed_in c reply = None

abbrev pub consumed : Entry → Option (ℕ × List ℕ)
consumed e = consumed_in e.command e.reply

abbrev pub is_number : ℕ → Option (ℕ × List ℕ) → Bool
is_number n None = false
is_number n (Some c) = c.0 == n

abbrev pub consumes : ℕ → Entry → Bool
consumes n e = is_number n (consumed e)

-- an event went to a session under its number, by a post or by a delivery

abbrev pub is_posted : ℕ × List ℕ → Command → Reply → Bool
is_posted c (Post session name pairs) (Posted n) = n == c.0 && bytes_eq session c.1
is_posted c command reply = false

abbrev pub is_queued : ℕ × List ℕ → Delivery → Bool
is_queued c (Queued n session) = n == c.0 && bytes_eq session c.1
is_queued c d = false

abbrev pub gives : ℕ × List ℕ → Entry → Bool
gives c e = is_posted c e.command e.reply || list_any (is_queued c) e.sent

-- what a step consumed was given before, to that very session
abbrev pub GivenBefore : List Entry → List Entry → Type 0
GivenBefore done [] = Unit {0}
GivenBefore done (e ∷ es) =
    IfSome (consumed e) (λ c. IsTrue (list_any (gives c) done)) × GivenBefore (done ++ e ∷ []) es

pub record IsAtMostOnce (history : List Entry) : Type 0 where
  pub once : (n : ℕ) → count_by (consumes n) history ≤ 1
  pub given : GivenBefore [] history
