-- A disk that tells nothing of what it holds: a stop may leave any bytes. This host's own rule.
use Rattle.std.specs.Prelude.{ℕ, []}
use Rattle.sc_dev.specs.Disks.{DiskLaw, DiskOf, Fits}

-- what stands for its bytes, which no clause speaks of
abbrev pub untold : DiskOf
untold = record { journal = []; slot_a = []; slot_b = [] }

abbrev pub MayLeave : DiskOf → Type 0
MayLeave c = Fits c

abbrev pub MayHaveLeft : ℕ → DiskOf → Type 0
MayHaveLeft t c = Fits c

-- what is known of such a disk, by its counts of calls and of faults
abbrev pub untold_law : {D : Type 0} → (D → ℕ) → (D → ℕ) → DiskLaw D
untold_law moment faults = record {
  tells = ⊥;
  reads = λ _. untold;
  may_leave = λ _. MayLeave;
  may_have_left = λ _. MayHaveLeft;
  moment = moment;
  faults = faults;
  identity = λ _. 0;
}
