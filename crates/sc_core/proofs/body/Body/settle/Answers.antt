use Rattle.std.proofs.Common.{ℕ, ap, arith}
use Rattle.sc_rooms.specs.Rooms.{RoomyOf}
use Rattle.sc_types.specs.declared.event.Event.{Event}
use Rattle.sc_core.proofs.RoomLemmas.{keeps_set}
use Rattle.sc_core.proofs.body.Body.settle.Goals as goal

pub returns-clause-keeps : goal.returns-clause-keeps
returns-clause-keeps g c =
    let s = c.item_mut.result.now in
    keeps_set c.args.self.now c.args.place s _ c.requires.agrees c.item_mut.ensures.value c.settle.ensures.image
    (omega (arith, ap (λ (q : RoomyOf Event). q.spare) c.settle.ensures.queued)) c.settle.ensures.spare
    (ap (λ (q : RoomyOf ℕ). q.items) c.settle.ensures.children)
    (omega (arith, ap (λ (q : RoomyOf ℕ). q.spare) c.settle.ensures.children))
