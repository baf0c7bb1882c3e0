use Rattle.std.proofs.Common.{◌≡◌, ◌≤◌, ℕ, List, Vec, Result, Ok, Err, IfOk, length, ap, arith}
use Rattle.std.proofs.Common.{Global}
use Rattle.sc_dev.specs.declared.disk.Part.TheVariants.{Journal, SlotA, SlotB}
use Rattle.sc_dev.specs.MemDisks.{PartsOf}
use Rattle.sc_dev.specs.PartsInside.{parts_inside}
use Rattle.sc_dev.proofs.DiskSteps.{filled-within}
use Rattle.sc_dev.proofs.mem_parts.MemParts.filled.Goals as goal

sized : {E : Type 0} (r : Result (Vec ℕ Global) E) (bytes : List ℕ) (n m : ℕ) → IfOk r (λ v. v.items ≡ bytes) → length bytes ≤ n → n ≡ m
    → IfOk r (λ v. length v.items ≤ m)
sized (Ok v) bytes n m is le same = omega (arith, ap length is, le, same)
sized (Err e) bytes n m is le same = tt

pub returns-in-Journal-clause-size : goal.returns-in-Journal-clause-size
returns-in-Journal-clause-size c =
    sized _ _ _ _ c.filled.ensures (filled-within c.args.fill.now Journal (parts_inside c.self.inside) c.self.invariant.fit)
    (ap (λ (p : PartsOf). p.rooms.bytes) c.self.view_is)

pub returns-in-SlotA-clause-size : goal.returns-in-SlotA-clause-size
returns-in-SlotA-clause-size c =
    sized _ _ _ _ c.filled-in-SlotA.ensures (filled-within c.args.fill.now SlotA (parts_inside c.self.inside) c.self.invariant.fit)
    (ap (λ (p : PartsOf). p.rooms.bytes) c.self.view_is)

pub returns-in-SlotB-clause-size : goal.returns-in-SlotB-clause-size
returns-in-SlotB-clause-size c =
    sized _ _ _ _ c.filled-in-SlotB.ensures (filled-within c.args.fill.now SlotB (parts_inside c.self.inside) c.self.invariant.fit)
    (ap (λ (p : PartsOf). p.rooms.bytes) c.self.view_is)
