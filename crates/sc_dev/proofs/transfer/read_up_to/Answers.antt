use Rattle.std.proofs.Common.{ℕ, ◌+◌, ◌≤◌, List, ◌++◌, length, arith, Option, Result, Ok, Err, length-append, length-take}
use Rattle.std.specs.Result.{OnErr}
use Rattle.std.specs.Io.KnownBytes.{Consumes}
use Rattle.std.proofs.KnownBytes.{Consumes-trans}
use Rattle.sc_dev.specs.Transfer.{ConsumesUpTo}
use Rattle.sc_dev.proofs.transfer.read_up_to.Goals as goal

-- what was kept and what came last, both of which are lost
lost : {T E : Type 0} (result : Result T E) (most : ℕ) (old mid new : Option (List ℕ)) (kept last : List ℕ)
    → Consumes old mid kept → Consumes mid new last → length kept + length last ≤ most → OnErr result (ConsumesUpTo most old new)
lost (Ok x) most old mid new kept last a b few = tt
lost (Err x) most old mid new kept last a b few =
    record { bytes = kept ++ last; few = omega (arith, length-append kept last); consumed = Consumes-trans old mid new kept last a b }

pub returns-in_err-extend_from_slice-clause-lost :
    goal.returns-in_err-extend_from_slice-clause-lost
returns-in_err-extend_from_slice-clause-lost g c =
    let bound = c.in_ok-count.ensures.bound in
    let room = c.read.auto.into in
    let least = length-take (c.min-room.result + 1) c.loop-buffer.buffer in
    lost _ _ _ _ _ _ _ c.loop-buffer.invariant.consumed c.in_ok-count.ensures.bytes
    (omega (arith, bound.0, bound.1, room, least))
