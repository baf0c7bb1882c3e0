use Rattle.std.proofs.Common.{ap, arith, refl}
use Rattle.sc_core.specs.Bodies.{session_image}
use Rattle.sc_core.specs.declared.session.Session.{Session}
use Rattle.sc_core.proofs.RoomLemmas.{keeps_set, made_there, on_ok}
use Rattle.sc_core.proofs.body.Body.reserve_queue.Goals as goal

pub returns-clause-keeps : goal.returns-clause-keeps
returns-clause-keeps g c =
    let s = c.item_mut.result.now in
    keeps_set c.args.self.now c.args.place s _ c.requires.agrees c.item_mut.ensures.value
    (ap (λ es. record (session_image s) { queued = es }) c.reserve.ensures.items) c.reserve.ensures.spare (omega arith) refl (omega arith)

pub returns-clause-ok : goal.returns-clause-ok
returns-clause-ok g c =
    on_ok c.reserve.result _ _ c.reserve.ensures.ok
    (made_there (λ (x : Session). x.queued.spare) c.args.self.now.sessions.items c.args.place c.args.count
    c.item_mut.result.now _ c.item_mut.ensures.value)
