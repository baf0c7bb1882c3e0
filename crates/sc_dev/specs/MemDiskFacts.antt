-- Facts on disks in memory: the laws of a disk hold of each. No clause cites them.
use Rattle.std.proofs.Common.{◌≡◌, inl, inr, ℕ, ◌-◌, ◌^◌, ◌<◌, ◌≤◌, List, [], ◌∷◌, refl, subst, arith}
use Rattle.std.proofs.lemmas.List.{take_min}
use Rattle.sc_dev.specs.Disks.{DiskOf, IsTorn}
use Rattle.sc_dev.specs.Histories.{Done, passed, wrote, lost, synced, bytes_after, LeavesAfter}
use Rattle.sc_dev.specs.MemDisks.{PartsOf, MemDiskOf, PartsLeave, parts_read, parts_ago, moment_of, MightHaveLeft}
use Rattle.sc_dev.specs.Ranges.{torn-put_over}

-- nothing may have been torn
pub torn-same : (at n : ℕ) (bytes : List ℕ) → IsTorn at n bytes bytes
torn-same at n bytes = record {
  before = take_min at bytes;
  after = refl;
  no_shorter = omega arith;
  no_longer = omega arith;
}

-- what reads give may be left
pub leaves-read : (first : List ℕ) (calls : List Done) → LeavesAfter first calls (bytes_after first calls)
leaves-read first [] = refl
leaves-read first (passed ∷ calls) = leaves-read first calls
leaves-read first (wrote at piece ∷ calls) = (
  bytes_after first calls,
  leaves-read first calls,
  torn-put_over at piece (bytes_after first calls),
)
leaves-read first (lost at n ∷ calls) = (
  bytes_after first calls,
  leaves-read first calls,
  torn-same at n (bytes_after first calls),
)
leaves-read first (synced ∷ calls) = refl

pub parts_stand : (p : PartsOf) → PartsLeave p (parts_read p)
parts_stand p = record {
  journal = leaves-read p.journal.first p.journal.calls;
  slot_a = leaves-read p.slot_a.first p.slot_a.calls;
  slot_b = leaves-read p.slot_b.first p.slot_b.calls;
}

-- what might be left since t might be left since any earlier moment
pub since_grows : (d : MemDiskOf) (s t : ℕ) (c : DiskOf) → s ≤ t → MightHaveLeft d t c → MightHaveLeft d s c
since_grows d s t c le (inl now) = inl (omega arith, now.1)
since_grows d s t c le (inr then) = inr (then.0, omega (arith, then.1), then.2)

pub since_now : (d : MemDiskOf) (t : ℕ) (c : DiskOf) → t ≤ moment_of d → PartsLeave d.parts c → MightHaveLeft d t c
since_now d t c le now = inl (le, now)

-- since this moment, only what may be left now
pub since_only : (d : MemDiskOf) (c : DiskOf) → moment_of d < 2 ^ 64 - 1 → MightHaveLeft d (moment_of d) c
    → PartsLeave d.parts c
since_only d c below (inl now) = now.1
since_only d c below (inr then) =
    let none : then.0 ≡ 0 = omega (arith, then.1) in
    subst (λ (k : ℕ). PartsLeave (parts_ago k d.parts) c) none then.2
