-- What was done to one part of a disk in memory, and what a stop may leave of it. This host's own rule.
use Rattle.std.specs.Prelude.{◌≡◌, ℕ, zero, suc, ◌+◌, ◌-◌, ◌%◌, max, List, [], ◌∷◌, ◌++◌, length, take, drop, replicate, get_or}
use Rattle.sc_base.specs.Folds.{each}
use Rattle.sc_dev.specs.declared.mem_part.Range.{Range}
use Rattle.sc_dev.specs.Disks.{IsTorn}

-- what one call did to the part
pub data Done : Type 0 where
  -- nothing
  passed : Done
  -- these bytes were written at this place
  wrote : ℕ → List ℕ → Done
  -- a write of so many bytes at this place failed
  lost : ℕ → ℕ → Done
  synced : Done

-- the bytes that a part began with, and what each call did, the last of them first
pub record History : Type 0 where
  pub first : List ℕ
  pub calls : List Done

-- one call more
abbrev pub after_call : Done → History → History
after_call call h = record h { calls = call ∷ h.calls }

-- the piece at its place, after zeros where the bytes end before it
abbrev pub put_over : ℕ → List ℕ → List ℕ → List ℕ
put_over at piece bytes = take at (bytes ++ replicate (at - length bytes) 0)
    ++ (piece ++ drop (at + length piece) bytes)

abbrev pub bytes_after : List ℕ → List Done → List ℕ
bytes_after first [] = first
bytes_after first (passed ∷ calls) = bytes_after first calls
bytes_after first (wrote at piece ∷ calls) = put_over at piece (bytes_after first calls)
bytes_after first (lost at n ∷ calls) = bytes_after first calls
bytes_after first (synced ∷ calls) = bytes_after first calls

-- what reads give
abbrev pub read_bytes : History → List ℕ
read_bytes h = bytes_after h.first h.calls

abbrev pub LeavesAfter : List ℕ → List Done → List ℕ → Type 0
LeavesAfter first [] c = c ≡ first
LeavesAfter first (passed ∷ calls) c = LeavesAfter first calls c
LeavesAfter first (wrote at piece ∷ calls) c = (d : List ℕ) × LeavesAfter first calls d × IsTorn at (length piece) d c
LeavesAfter first (lost at n ∷ calls) c = (d : List ℕ) × LeavesAfter first calls d × IsTorn at n d c
LeavesAfter first (synced ∷ calls) c = c ≡ bytes_after first calls

-- what a stop may leave: the bytes at the last sync, with each range written since torn
abbrev pub MayLeave : History → List ℕ → Type 0
MayLeave h c = LeavesAfter h.first h.calls c

-- the ranges written since the last sync, the first of them first
abbrev pub pending : List Done → List Range
pending [] = []
pending (passed ∷ calls) = pending calls
pending (wrote at piece ∷ calls) = pending calls ++ record { at = at; size = length piece } ∷ []
pending (lost at n ∷ calls) = pending calls ++ record { at = at; size = n } ∷ []
pending (synced ∷ calls) = []

-- the first n bytes of the fill, repeated
abbrev pub repeated : List ℕ → ℕ → List ℕ
repeated fill zero = []
repeated fill (suc n) = repeated fill n ++ get_or fill (n % length fill) 0 ∷ []

-- the range with the fill in it
abbrev pub fill_range : List ℕ → Range → List ℕ → List ℕ
fill_range fill range bytes = put_over range.at (repeated fill range.size) bytes

-- the image whose pending ranges hold the fill, repeated
abbrev pub filled : List ℕ → History → List ℕ
filled fill h = each (fill_range fill) (pending h.calls) (read_bytes h)

-- what it was so many calls ago
abbrev pub ago : ℕ → History → History
ago k h = record h { calls = drop k h.calls }

abbrev pub written_in : List Done → ℕ
written_in [] = 0
written_in (passed ∷ calls) = written_in calls
written_in (wrote at piece ∷ calls) = written_in calls + length piece
written_in (lost at n ∷ calls) = written_in calls
written_in (synced ∷ calls) = written_in calls

-- how many bytes were written
abbrev pub bytes_written : History → ℕ
bytes_written h = written_in h.calls

abbrev pub furthest_in : ℕ → List Done → ℕ
furthest_in end [] = end
furthest_in end (passed ∷ calls) = furthest_in end calls
furthest_in end (wrote at piece ∷ calls) = max (furthest_in end calls) (at + length piece)
furthest_in end (lost at n ∷ calls) = max (furthest_in end calls) (at + n)
furthest_in end (synced ∷ calls) = furthest_in end calls

-- where the furthest byte ends that was ever in the part or in a written range
abbrev pub furthest : History → ℕ
furthest h = furthest_in (length h.first) h.calls
