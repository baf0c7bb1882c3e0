-- How a run of calls goes on over the moments of a disk.
use Rattle.std.proofs.Common.{inl, inr, ⊎_elim, ℕ, ◌-◌, ◌^◌, ◌<◌, arith}
use Rattle.sc_dev.specs.Disks.{DiskLaw, DiskOf, Elapses}
use Rattle.sc_journal.specs.Stops.{LeavesOnly, Passes}

module _ {D : Type 0} (law : DiskLaw D) where
  -- before the first call
  pub started : (old : D) (P : DiskOf → Type 0) → (law.moment old < 2 ^ 64 - 1 → (c : DiskOf) → law.may_have_left old (law.moment old) c → P c)
      → LeavesOnly law old old P
  started old P here = record { later = omega arith; each = here; before = λ t c le left. inl left }

  -- one call more, after which a stop leaves what has P
  pub goes_on : (old mid new : D) (P Q : DiskOf → Type 0) → LeavesOnly law old mid P → Passes law mid new Q
      → ((c : DiskOf) → Q c → P c) → LeavesOnly law old new P
  goes_on old mid new P Q so_far passes here = record {
    later = omega (arith, so_far.later, passes.later);
    each = λ below c left. ⊎_elim (so_far.each below c) (here c) (passes.before (law.moment old) c so_far.later left);
    before = λ t c le left. ⊎_elim (so_far.before t c le) (λ now. inr (here c now)) (passes.before t c (omega (arith, le, so_far.later)) left);
  }

  -- no call, and one more
  pub passes-none : (old : D) (P : DiskOf → Type 0) → Passes law old old P
  passes-none old P = record { later = omega arith; before = λ t c le left. inl left }

  pub passes-call : (old mid new : D) (P : DiskOf → Type 0) → Passes law old mid P → Elapses law mid new
      → ((c : DiskOf) → law.may_leave new c → P c) → Passes law old new P
  passes-call old mid new P so_far time here = record {
    later = omega (arith, so_far.later, time.later);
    before = λ t c le left. ⊎_elim (so_far.before t c le) (λ now. inr (here c now)) (time.nothing_else t c (omega (arith, le, so_far.later)) left);
  }
