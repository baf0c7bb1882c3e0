-- What a stop of the machine may leave while a call runs. This host's own rule.
use Rattle.std.specs.Prelude.{◌⊎◌, ℕ, ◌-◌, ◌^◌, ◌<◌, ◌≤◌}
use Rattle.sc_dev.specs.declared.disk.Part.{Part}
use Rattle.sc_dev.specs.Disks.{DiskLaw, DiskOf, Torn}

-- A stop at any moment since old leaves an image that has P.
pub record LeavesOnly {D : Type 0} (law : DiskLaw D) (old new : D)
    (P : DiskOf → Type 0) : Type 0 where
  pub later : law.moment old ≤ law.moment new
  pub each : law.moment old < 2 ^ 64 - 1 → (c : DiskOf) → law.may_have_left new (law.moment old) c → P c
  -- and since an earlier moment, one that might have been left at old, or one that has P
  pub before : (t : ℕ) (c : DiskOf) → t ≤ law.moment old → law.may_have_left new t c → law.may_have_left old t c ⊎ P c

-- an image of before, torn by a write of so many bytes
abbrev pub TornFrom : (DiskOf → Type 0) → Part → ℕ → ℕ → DiskOf → Type 0
TornFrom may_leave part at n c = (d : DiskOf) × may_leave d × Torn part at n d c

-- the same, without `each`, which asks what might be left at the start
pub record Passes {D : Type 0} (law : DiskLaw D) (old new : D)
    (P : DiskOf → Type 0) : Type 0 where
  pub later : law.moment old ≤ law.moment new
  pub before : (t : ℕ) (c : DiskOf) → t ≤ law.moment old → law.may_have_left new t c → law.may_have_left old t c ⊎ P c
