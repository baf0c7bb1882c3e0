-- The receipt of a command, and its body for the journal. Only private clauses cite these definitions.
use Rattle.std.specs.Prelude.{ℕ, ◌≡◌, ◌≤◌, Bool, true, List, length}
use Rattle.std.specs.List.{list_all}
use Rattle.sc_book.specs.declared.receipt.Receipt.{Receipt}
use Rattle.sc_codec.specs.Bodies.{IsEncodable, Spells, body_of}
use Rattle.sc_core.specs.declared.prepared.Prepared.{Prepared}
use Rattle.sc_types.specs.Values.{fits_flat}
use Rattle.sc_types.specs.declared.command.Command.{Command}
use Rattle.sc_types.specs.declared.command.Command.TheVariants.{Post}

-- a receipt has this number and tells what was prepared
pub record Confirms {P : Type 0} (n : ℕ) (p : Prepared P) (r : Receipt) : Type 0 where
  pub number : r.number ≡ n
  pub reply : r.reply ≡ p.reply
  pub logs : r.logs ≡ p.logs
  pub sent : r.sent ≡ p.sent

-- each value in a command is within the limits of values
abbrev pub has_fitting_values : Command → Bool
has_fitting_values (Post session event pairs) = list_all (λ p. fits_flat p.1) pairs
has_fitting_values c = true

-- with such values a command has a body, and an entry of the journal can have it
pub record FitsEntry (c : Command) : Type 0 where
  pub encodable : has_fitting_values c ≡ true → IsEncodable c
  pub most : length (body_of c) ≤ 2097152

-- these bytes are the body of this command, and an entry of the journal can have it
pub record IsBodyOf (c : Command) (body : List ℕ) : Type 0 where
  pub spells : Spells body c
  pub some : 1 ≤ length body
  pub most : length body ≤ 2097152
