-- Disks that stand in memory. This host's own rule.
use Rattle.std.specs.Prelude.{◌⊎◌, ℕ, ◌+◌, ◌-◌, ◌^◌, ◌==◌, ◌≤◌, min, nat_le, Bool, not, ◌&&◌, ◌||◌, if◌then◌else◌, List, [], length, ⊤}
use Rattle.std.specs.List.{list_any}
use Rattle.sc_dev.specs.declared.disk.Part.{Part}
use Rattle.sc_dev.specs.declared.disk.Part.TheVariants.{Journal, SlotA, SlotB}
use Rattle.sc_dev.specs.declared.mem_part.Rooms.{Rooms}
use Rattle.sc_dev.specs.Causes.{risen}
use Rattle.sc_dev.specs.Disks.{DiskLaw, DiskOf}
use Rattle.sc_dev.specs.Histories.{Done, History, passed, wrote, lost, synced, after_call, read_bytes, MayLeave, filled, ago, bytes_written, furthest}

-- the three parts: each call stands in the history of each, and may have changed one
pub record PartsOf : Type 0 where
  pub journal : History
  pub slot_a : History
  pub slot_b : History
  pub rooms : Rooms

-- after a call that did this in one part
abbrev pub with_call : Part → Done → PartsOf → PartsOf
with_call Journal call p = record p {
  journal = after_call call p.journal;
  slot_a = after_call passed p.slot_a;
  slot_b = after_call passed p.slot_b;
}
with_call SlotA call p = record p {
  journal = after_call passed p.journal;
  slot_a = after_call call p.slot_a;
  slot_b = after_call passed p.slot_b;
}
with_call SlotB call p = record p {
  journal = after_call passed p.journal;
  slot_a = after_call passed p.slot_a;
  slot_b = after_call call p.slot_b;
}

-- what reads give
abbrev pub parts_read : PartsOf → DiskOf
parts_read p = record {
  journal = read_bytes p.journal;
  slot_a = read_bytes p.slot_a;
  slot_b = read_bytes p.slot_b;
}

-- the images that a stop may leave
pub record PartsLeave (p : PartsOf) (c : DiskOf) : Type 0 where
  pub journal : MayLeave p.journal c.journal
  pub slot_a : MayLeave p.slot_a c.slot_a
  pub slot_b : MayLeave p.slot_b c.slot_b

-- what the parts were so many calls ago
abbrev pub parts_ago : ℕ → PartsOf → PartsOf
parts_ago k p = record p { journal = ago k p.journal; slot_a = ago k p.slot_a; slot_b = ago k p.slot_b }

-- the image whose pending ranges hold the fill, repeated
abbrev pub parts_filled : List ℕ → PartsOf → DiskOf
parts_filled fill p = record {
  journal = filled fill p.journal;
  slot_a = filled fill p.slot_a;
  slot_b = filled fill p.slot_b;
}

-- how many calls there were, and how many bytes were written
abbrev pub calls_made : PartsOf → ℕ
calls_made p = length p.journal.calls

abbrev pub all_written : PartsOf → ℕ
all_written p = bytes_written p.journal + (bytes_written p.slot_a + bytes_written p.slot_b)

-- no part ever reached past the room in bytes
pub record PartsFit (p : PartsOf) : Type 0 where
  pub limit : p.rooms.bytes ≤ 2 ^ 40
  pub journal : furthest p.journal ≤ p.rooms.bytes
  pub slot_a : furthest p.slot_a ≤ p.rooms.bytes
  pub slot_b : furthest p.slot_b ≤ p.rooms.bytes

-- a disk: its parts, the calls past the room in calls, the numbers of the calls that fail, and the faults so far
pub record MemDiskOf : Type 0 where
  pub parts : PartsOf
  pub past : ℕ
  pub failing : List ℕ
  pub faults : ℕ

-- a new disk with these bytes
abbrev pub new_disk : DiskOf → Rooms → List ℕ → MemDiskOf
new_disk d rooms failing = record {
  parts = record {
    journal = record { first = d.journal; calls = [] };
    slot_a = record { first = d.slot_a; calls = [] };
    slot_b = record { first = d.slot_b; calls = [] };
    rooms = rooms;
  };
  past = 0;
  failing = failing;
  faults = 0;
}

-- how many calls there were, as far as 64 bits count
abbrev pub moment_of : MemDiskOf → ℕ
moment_of d = min (calls_made d.parts + d.past) (2 ^ 64 - 1)

-- what every call keeps: a disk in memory has nothing besides
abbrev pub identity_of : MemDiskOf → ℕ
identity_of d = 0

-- The images that a stop at some moment since t might have left: those of now, since the last call stands until now,
-- and those of each earlier moment, before one more call was made.
abbrev pub MightHaveLeft : MemDiskOf → ℕ → DiskOf → Type 0
MightHaveLeft d t c = ((t ≤ moment_of d) × PartsLeave d.parts c)
    ⊎ ((k : ℕ) × (t + k ≤ calls_made d.parts) × PartsLeave (parts_ago k d.parts) c)

-- what is known of a disk in memory
abbrev pub mem_law : DiskLaw MemDiskOf
mem_law = record {
  tells = ⊤;
  reads = λ d. parts_read d.parts;
  may_leave = λ d. PartsLeave d.parts;
  may_have_left = MightHaveLeft;
  moment = moment_of;
  faults = λ d. d.faults;
  identity = identity_of;
}

-- whether the next call is past the room in calls, and whether it is one of those that fail
abbrev pub is_past : MemDiskOf → Bool
is_past d = nat_le d.parts.rooms.calls (calls_made d.parts)

abbrev pub is_named : MemDiskOf → Bool
is_named d = list_any (λ n. n == risen (moment_of d)) d.failing

-- whether so many bytes can be written at a place
abbrev pub has_room : MemDiskOf → ℕ → ℕ → Bool
has_room d at n = nat_le (at + n) d.parts.rooms.bytes && nat_le (all_written d.parts + n) d.parts.rooms.written

-- after a call that did this in one part
abbrev pub made : Part → Done → MemDiskOf → MemDiskOf
made part call d = record d { parts = with_call part call d.parts }

-- after a call that failed and changed nothing; past the room in calls no more is kept than that it was made
abbrev pub refused : MemDiskOf → MemDiskOf
refused d = if is_past d then record d { past = risen d.past; faults = risen d.faults }
    else record d { parts = with_call Journal passed d.parts; faults = risen d.faults }

-- a read or a sync goes well unless it is past the room in calls or one of those that fail
abbrev pub goes_well : MemDiskOf → Bool
goes_well d = not (is_past d) && not (is_named d)

abbrev pub after_read_at : MemDiskOf → MemDiskOf
after_read_at d = if goes_well d then made Journal passed d else refused d

abbrev pub after_sync : Part → MemDiskOf → MemDiskOf
after_sync part d = if goes_well d then made part synced d else refused d

-- a write asks for room besides
abbrev pub write_goes_well : MemDiskOf → ℕ → ℕ → Bool
write_goes_well d at n = has_room d at n && goes_well d

-- A write past a room changes nothing; of one that is among those that fail, the range may hold any bytes.
abbrev pub after_write_at : Part → ℕ → List ℕ → MemDiskOf → MemDiskOf
after_write_at part at piece d = if is_past d || not (has_room d at (length piece)) then refused d
    else (if is_named d then record d {
      parts = with_call part (lost at (length piece)) d.parts;
      faults = risen d.faults;
    }
    else made part (wrote at piece) d)
