-- A book as the jobs of a pool see it. This host's own rule.
use Rattle.std.specs.Prelude.{ℕ, is_some}
use Rattle.sc_book.specs.Books.{BookOf, IsBook}
use Rattle.sc_book.specs.Receipts.{most_body}
use Rattle.sc_machine.specs.Cues.{ready}
use Rattle.sc_dev.specs.Disks.{DiskLaw, DiskOf}
use Rattle.sc_journal.specs.Journals.{IsFull}
use Rattle.sc_pool.specs.Sharing.{Seen}

-- its journal lacks room for some command where it has none for the longest
abbrev pub seen_of : {D : Type 0} → DiskLaw D → BookOf D → Seen
seen_of law b = record {
  opened = b.opened;
  entries = b.history;
  doubts = b.doubts;
  ready = is_some (ready b.host);
  faults = law.faults b.journal.disk;
  identity = law.identity b.journal.disk;
  tight = IsFull b.journal.end b.journal.next most_body;
  stands = λ past. IsBook law past b;
}
