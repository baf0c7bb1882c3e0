-- How a part of a disk in memory keeps its history: the bytes now, the calls, and the bytes that writes replaced. This
-- host's own rule, for private clauses.
use Rattle.std.specs.Prelude.{◌≡◌, ℕ, ◌+◌, ◌-◌, ◌≤◌, min, List, [], ◌∷◌, ◌++◌, length, take, drop, reverse, vec_len, vec_capacity, All}
use Rattle.sc_dev.specs.declared.mem_part.Change.{Change}
use Rattle.sc_dev.specs.declared.mem_part.Change.TheVariants.{Passed, Wrote, Lost, Synced}
use Rattle.sc_dev.specs.declared.mem_part.MemPart.TheInside.{Inside}
use Rattle.sc_dev.specs.declared.mem_part.Range.{Range}
use Rattle.sc_dev.specs.Histories.{Done, History, passed, wrote, lost, synced, read_bytes, pending, bytes_written, furthest}
use Rattle.sc_dev.specs.Parts.{PartOf}

-- how many bytes a write replaced, where there were so many before
abbrev pub count_replaced : ℕ → ℕ → ℕ → ℕ
count_replaced at size before = min size (before - at)

-- the bytes before a write, with those back that it replaced
abbrev pub undone : ℕ → ℕ → List ℕ → List ℕ → List ℕ
undone at before replaced bytes = take before (take at bytes ++ (replaced ++ drop (at + length replaced) bytes))

-- the bytes before all calls, the last of them first, from the bytes now and all that were replaced
abbrev pub first_of : List ℕ → List ℕ → List Change → List ℕ
first_of bytes replaced [] = bytes
first_of bytes replaced (Passed ∷ changes) = first_of bytes replaced changes
first_of bytes replaced (Wrote at size before ∷ changes) =
    let rest = length replaced - count_replaced at size before in
    first_of (undone at before (drop rest replaced) bytes) (take rest replaced) changes
first_of bytes replaced (Lost at size ∷ changes) = first_of bytes replaced changes
first_of bytes replaced (Synced ∷ changes) = first_of bytes replaced changes

-- what the calls did
abbrev pub calls_of : List ℕ → List ℕ → List Change → List Done
calls_of bytes replaced [] = []
calls_of bytes replaced (Passed ∷ changes) = passed ∷ calls_of bytes replaced changes
calls_of bytes replaced (Wrote at size before ∷ changes) =
    let rest = length replaced - count_replaced at size before in
    wrote at (take size (drop at bytes))
    ∷ calls_of (undone at before (drop rest replaced) bytes) (take rest replaced) changes
calls_of bytes replaced (Lost at size ∷ changes) = lost at size ∷ calls_of bytes replaced changes
calls_of bytes replaced (Synced ∷ changes) = synced ∷ calls_of bytes replaced changes

-- the history that ends with these bytes
abbrev pub history_of : List ℕ → List ℕ → List Change → History
history_of bytes replaced changes =
    record { first = first_of bytes replaced changes; calls = calls_of bytes replaced changes }

abbrev pub history_inside : Inside → History
history_inside p = history_of p.bytes.items p.replaced.items (reverse p.changes.items)

abbrev pub part_inside : Inside → PartOf
part_inside p = record { history = history_inside p; rooms = p.rooms }

pub record IsSound (p : Inside) : Type 0 where
  pub bytes : read_bytes (history_inside p) ≡ p.bytes.items
  pub count : length (history_inside p).calls ≡ vec_len p.changes
  pub pending : pending (history_inside p).calls ≡ p.pending.items
  pub short : vec_len p.bytes ≤ p.rooms.bytes
  pub within : furthest (history_inside p) ≤ p.rooms.bytes
  pub replaced : vec_len p.replaced ≤ bytes_written (history_inside p)
  pub room : p.rooms.bytes ≤ vec_capacity p.bytes
  pub written : p.rooms.written ≤ vec_capacity p.replaced
  pub changes : p.rooms.calls ≤ vec_capacity p.changes
  pub ranges : p.rooms.calls ≤ vec_capacity p.pending
  pub ends : All (λ (r : Range). r.at + r.size ≤ p.rooms.bytes) p.pending.items
  pub few : vec_len p.pending ≤ vec_len p.changes
