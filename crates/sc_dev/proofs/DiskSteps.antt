-- What each call of a disk in memory shows, from its fields.
use Rattle.std.proofs.Common.{◌≡◌, ℕ, ◌<◌, ◌≤◌, List, false, length, arith, sym, subst}
use Rattle.std.proofs.lemmas.Bool.Decides.{nat_tests}
use Rattle.sc_dev.specs.declared.disk.Part.{Part}
use Rattle.sc_dev.specs.declared.disk.Part.TheVariants.{Journal, SlotA, SlotB}
use Rattle.sc_dev.specs.Causes.{risen}
use Rattle.sc_dev.specs.Disks.{part_of}
use Rattle.sc_dev.specs.Histories.{Done}
use Rattle.sc_dev.specs.MemDisks.{PartsOf, PartsFit, PartsLeave, MemDiskOf, with_call, parts_filled, calls_made, is_past}
use Rattle.sc_dev.specs.Steps.{Steps}
use Rattle.sc_dev.proofs.Filled.{filled-leaves}
use Rattle.sc_dev.proofs.StepLemmas.{steps-call, steps-past, length-image}

-- within the room in calls none was past it
quiet : (d : MemDiskOf) → is_past d ≡ false → (0 < d.past → d.parts.rooms.calls ≤ calls_made d.parts) → d.past ≡ 0
quiet d within full = grind (arith, nat_tests)

-- a call within the room in calls
pub made-steps : (old now new : MemDiskOf) (part : Part) (call : Done) → old ≡ now → is_past now ≡ false
    → (0 < old.past → old.parts.rooms.calls ≤ calls_made old.parts)
    → new.parts ≡ with_call part call old.parts → new.past ≡ old.past → PartsFit new.parts → Steps now new
made-steps old now new part call is within full after same fit =
    let none = quiet old (subst (λ (d : MemDiskOf). is_past d ≡ false) (sym is) within) full in
    subst (λ (d : MemDiskOf). Steps d new) is (steps-call old new part call after none (omega (arith, none, same)) fit)

-- a call past it
pub past-steps : (old now new : MemDiskOf) → old ≡ now → new.parts ≡ old.parts → new.past ≡ risen old.past → PartsFit old.parts → Steps now new
past-steps old now new is same later fit = subst (λ (d : MemDiskOf). Steps d new) is (steps-past old new same later fit)

-- the filled parts are an image
pub filled-image : (fill : List ℕ) (p : PartsOf) → PartsLeave p (parts_filled fill p)
filled-image fill p = record {
  journal = filled-leaves fill p.journal.first p.journal.calls;
  slot_a = filled-leaves fill p.slot_a.first p.slot_a.calls;
  slot_b = filled-leaves fill p.slot_b.first p.slot_b.calls;
}

-- and within the room
pub filled-within : (fill : List ℕ) (part : Part) (p : PartsOf) → PartsFit p → length (part_of part (parts_filled fill p)) ≤ p.rooms.bytes
filled-within fill Journal p fit = omega (arith, fit.journal, length-image p.journal.first p.journal.calls _ (filled-leaves fill p.journal.first p.journal.calls))
filled-within fill SlotA p fit = omega (arith, fit.slot_a, length-image p.slot_a.first p.slot_a.calls _ (filled-leaves fill p.slot_a.first p.slot_a.calls))
filled-within fill SlotB p fit = omega (arith, fit.slot_b, length-image p.slot_b.first p.slot_b.calls _ (filled-leaves fill p.slot_b.first p.slot_b.calls))
