-- Disks of three parts: what reads give, and what a stop of the machine may leave. This host's own rule.
use Rattle.std.specs.Prelude.{◌≡◌, ◌⊎◌, ℕ, ◌+◌, ◌^◌, ◌≤◌, min, max, List, length, take, drop}
use Rattle.std.specs.Borrow.{MutBor}
use Rattle.sc_dev.specs.declared.disk.Part.{Part}
use Rattle.sc_dev.specs.declared.disk.Part.TheVariants.{Journal, SlotA, SlotB}
use Rattle.sc_dev.specs.Causes.{Rose}

-- the bytes of the three parts
pub record DiskOf : Type 0 where
  pub journal : List ℕ
  pub slot_a : List ℕ
  pub slot_b : List ℕ

abbrev pub part_of : Part → DiskOf → List ℕ
part_of Journal d = d.journal
part_of SlotA d = d.slot_a
part_of SlotB d = d.slot_b

-- the disk with these bytes in that part
abbrev pub with_part : Part → List ℕ → DiskOf → DiskOf
with_part Journal bytes d = record d { journal = bytes }
with_part SlotA bytes d = record d { slot_a = bytes }
with_part SlotB bytes d = record d { slot_b = bytes }

-- each part has at most 2^40 bytes
pub record Fits (d : DiskOf) : Type 0 where
  pub journal : length d.journal ≤ 2 ^ 40
  pub slot_a : length d.slot_a ≤ 2 ^ 40
  pub slot_b : length d.slot_b ≤ 2 ^ 40

-- After a write of n bytes at a place that may be cut short: any bytes in its range and between the old end and the
-- range, any end from the old one to that of the range, and every other byte as it was.
pub record IsTorn (at n : ℕ) (old new : List ℕ) : Type 0 where
  pub before : take (min at (length old)) new ≡ take at old
  pub after : drop (at + n) new ≡ drop (at + n) old
  pub no_shorter : length old ≤ length new
  pub no_longer : length new ≤ max (length old) (at + n)

-- that, in one part, with the other parts as they were
pub record Torn (part : Part) (at n : ℕ) (old new : DiskOf) : Type 0 where
  pub others : with_part part (part_of part old) new ≡ old
  pub range : IsTorn at n (part_of part old) (part_of part new)

-- each new image is an old image after a step
abbrev pub Follows : (DiskOf → DiskOf → Type 0) → (DiskOf → Type 0) → (DiskOf → Type 0) → Type 0
Follows step old new = (c : DiskOf) → new c → (d : DiskOf) × old d × step d c

-- each new image was an old image
abbrev pub Within : (DiskOf → Type 0) → (DiskOf → Type 0) → Type 0
Within old new = (c : DiskOf) → new c → old c

-- Time goes on: a stop since t might have left what it might have left before, or what it may leave now.
pub record Elapsed (before now : ℕ) (past since : ℕ → DiskOf → Type 0) (may_leave : DiskOf → Type 0) : Type 0 where
  pub later : before ≤ now
  pub rose : Rose before now
  pub nothing_else : (t : ℕ) (c : DiskOf) → t ≤ before → since t c → past t c ⊎ may_leave c
  pub keeps : (t : ℕ) (c : DiskOf) → t ≤ before → past t c → since t c

-- What is to be known of disks of a type.
pub record DiskLaw (D : Type 0) : Type 1 where
  -- whether the disk tells what it holds; one that does not claims nothing of bytes
  pub tells : Type 0
  -- what reads give
  pub reads : D → DiskOf
  -- the images that a stop now may leave
  pub may_leave : D → DiskOf → Type 0
  -- the images that a stop at some moment since that one might have left
  pub may_have_left : D → ℕ → DiskOf → Type 0
  -- one clock for the three parts: it rises with each device call, or stands at its last value
  pub moment : D → ℕ
  -- the device calls that failed
  pub faults : D → ℕ
  -- every call keeps it: a disk that was lent and came back is the same one
  pub identity : D → ℕ

-- a device call was made
abbrev pub Elapses : {D : Type 0} → DiskLaw D → D → D → Type 0
Elapses law old new =
    Elapsed (law.moment old) (law.moment new) (law.may_have_left old) (law.may_have_left new) (law.may_leave new)

-- a disk that is lent, which is known by its loan
abbrev pub lent : {D : Type 0} → DiskLaw D → DiskLaw (MutBor D)
lent law = record {
  tells = law.tells;
  reads = λ d. law.reads d.now;
  may_leave = λ d. law.may_leave d.now;
  may_have_left = λ d. law.may_have_left d.now;
  moment = λ d. law.moment d.now;
  faults = λ d. law.faults d.now;
  identity = λ d. d.ghost_name;
}
