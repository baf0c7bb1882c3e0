-- What a call of a book does. This host's own rule.
use Rattle.std.specs.Prelude.{ℕ, ◌+◌, ◌≡◌, ◌≤◌, ◌⊎◌, ◌∷◌, ◌++◌, [], true, List, length}
use Rattle.sc_book.specs.Books.{BookOf, IsAt, IsInDoubt, count_after}
use Rattle.sc_book.specs.Images.{StandsFor}
use Rattle.sc_book.specs.declared.doubt.Doubt.{Doubt}
use Rattle.sc_book.specs.declared.fault.CallFault.{CallFault}
use Rattle.sc_book.specs.declared.fault.CallFault.TheVariants.{Disk}
use Rattle.sc_book.specs.declared.receipt.Receipt.{Receipt}
use Rattle.sc_codec.specs.Bodies.{body_of}
use Rattle.sc_machine.specs.Accepted.{is_accepted}
use Rattle.sc_machine.specs.Commands.{answer}
use Rattle.sc_machine.specs.Histories.{Tells}
use Rattle.sc_dev.specs.Disks.{DiskOf}
use Rattle.sc_journal.specs.Journals.{IsFull}
use Rattle.sc_types.specs.declared.command.Command.{Command}
use Rattle.sc_types.specs.declared.history.Entry.{Entry}
use Rattle.sc_types.specs.declared.history.Who.{Who}

-- One entry was added: that of this caller and command, which tells what the host machine answers; the host is the one
-- that the answer leaves; and the receipt tells the entry.
pub record Acknowledges {D : Type 0} (by : Who) (c : Command) (old new : BookOf D) (r : Receipt) : Type 0 where
  pub entry : Entry
  pub history : new.history ≡ old.history ++ entry ∷ []
  pub who : entry.who ≡ by
  pub command : entry.command ≡ c
  pub told : Tells entry (answer old.host c)
  pub host : new.host ≡ (answer old.host c).host
  pub doubts : new.doubts ≡ old.doubts
  pub number : r.number ≡ length new.history
  pub reply : r.reply ≡ entry.reply
  pub logs : r.logs ≡ entry.logs
  pub sent : r.sent ≡ entry.sent

-- no entry was added
pub record IsUnanswered {D : Type 0} (old new : BookOf D) : Type 0 where
  pub host : new.host ≡ old.host
  pub history : new.history ≡ old.history
  pub moments : new.moments ≡ old.moments

-- the command is kept as one that a fault of the disk left in doubt
pub record IsDoubted {D : Type 0} (by : Who) (c : Command) (old new : BookOf D) : Type 0 where
  pub doubt : Doubt
  pub doubts : new.doubts ≡ old.doubts ++ doubt ∷ []
  pub who : doubt.who ≡ by
  pub command : doubt.command ≡ c
  pub before : doubt.before ≡ length old.history
  pub accepted : is_accepted (answer old.host c).reply ≡ true

-- what is in doubt after a call that added no entry: what was, and this command where the disk failed at it
abbrev pub Doubts : {D : Type 0} → Who → Command → BookOf D → BookOf D → CallFault → Type 0
Doubts who c old new Disk = (new.doubts ≡ old.doubts) ⊎ IsDoubted who c old new
Doubts who c old new fault = new.doubts ≡ old.doubts

-- the most bytes of the body of a command that a host accepts
abbrev pub most_body : ℕ
most_body = 2097152

-- the host would accept the command, and the journal has no room for it
pub record HasNoRoom {D : Type 0} (c : Command) (b : BookOf D) : Type 0 where
  pub accepted : is_accepted (answer b.host c).reply ≡ true
  pub full : IsFull b.journal.end b.journal.next (length (body_of c))

-- what the journal holds never gets less
pub record Grows {D : Type 0} (old new : BookOf D) : Type 0 where
  pub end : old.journal.end ≤ new.journal.end
  pub next : old.journal.next ≤ new.journal.next

-- What a stop leaves while a call runs: what was accepted before it; that and the command of the call; or, until it was
-- taken back, that and the command which an earlier fault left in doubt.
abbrev pub IsDuring : {D : Type 0} → List Command → BookOf D → Command → DiskOf → Type 0
IsDuring past b c d = IsAt past b.history (length b.history) d
    ⊎ (IsInDoubt past b.history b.doubts (length b.history) d
    ⊎ StandsFor d (count_after past b.history (length b.history) + 1) (answer b.host c).host)

-- ---- for private clauses: the parts of it

-- while the doubt is taken back
abbrev pub IsAllOrDoubted : {D : Type 0} → List Command → BookOf D → DiskOf → Type 0
IsAllOrDoubted past b d =
    IsAt past b.history (length b.history) d ⊎ IsInDoubt past b.history b.doubts (length b.history) d

-- and then
abbrev pub IsAllOrMore : {D : Type 0} → List Command → BookOf D → Command → DiskOf → Type 0
IsAllOrMore past b c d = IsAt past b.history (length b.history) d
    ⊎ StandsFor d (count_after past b.history (length b.history) + 1) (answer b.host c).host
