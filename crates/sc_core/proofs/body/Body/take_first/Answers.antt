use Rattle.std.proofs.Common.{ap}
use Rattle.sc_timers.specs.Timers.{TimersOf}
use Rattle.sc_core.proofs.SetLemmas.{takes}
use Rattle.sc_core.proofs.body.Body.take_first.Goals as goal

pub returns-clause-body : goal.returns-clause-body
returns-clause-body g c =
    let h = c.args.self.now in
    let e = c.take_due.ensures in
    ap (λ (t : TimersOf). record h { timers = t })
    (takes c.take_due.result h.timers c.take_due.new.self h.clock c.requires.due e.none e.first e.spare).left

pub returns-clause-send : goal.returns-clause-send
returns-clause-send g c =
    let h = c.args.self.now in
    let e = c.take_due.ensures in
    (takes c.take_due.result h.timers c.take_due.new.self h.clock c.requires.due e.none e.first e.spare).send
