-- How a journal keeps what is in doubt: the buffer has the length, the body and the closed gate of the last entry. This
-- host's own rule, for private clauses.
use Rattle.std.specs.Prelude.{ℕ, ◌+◌, ◌-◌, ◌^◌, ◌<◌, ◌≤◌, Bool, true, false, Option, None, Some, List, length, take, drop, vec_capacity}
use Rattle.sc_journal.specs.declared.journal.Journal.TheInside.{Inside}
use Rattle.sc_journal.specs.Journals.{JournalOf}

abbrev pub buffered_body : List ℕ → List ℕ
buffered_body buffer = take (length buffer - 5) (drop 4 buffer)

abbrev pub doubted : Bool → List ℕ → Option (List ℕ)
doubted true buffer = Some (buffered_body buffer)
doubted false buffer = None

abbrev pub journal_inside : {D : Type 0} → Inside D → JournalOf D
journal_inside j = record { disk = j.disk; end = j.end; next = j.next; doubt = doubted j.is_in_doubt j.buffer.items }

pub record IsReady {D : Type 0} (j : Inside D) : Type 0 where
  pub room : 2097157 ≤ vec_capacity j.buffer
  pub end : j.end < 2 ^ 40
  pub next : j.next ≤ 2 ^ 48 + 1
