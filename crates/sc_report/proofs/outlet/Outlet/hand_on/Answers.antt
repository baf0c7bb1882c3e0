use Rattle.std.proofs.Common.{ap, subst}
use Rattle.std.specs.Io.KnownBytes.{Appends}
use Rattle.sc_dev.specs.Transfer.{AppendsPart}
use Rattle.sc_report.specs.Outlets.{seen}
use Rattle.sc_report.proofs.OutletLemmas.{handed_on}
use Rattle.sc_report.proofs.outlet.Outlet.hand_on.Goals as goal

pub returns-clause-puts : goal.returns-clause-puts
returns-clause-puts g c =
    let taken = g.K.Sink.taken in
    let faults = g.K.Sink.faults in
    let old = seen taken faults c.args.self.now in
    let w = c.write_piece-self in
    rw c.clear.ensures (handed_on old (taken w.new.sink) (faults w.new.sink) w.result
    (λ e. ((w.ensures.passed e).0, ap taken ((w.ensures.passed e).1), ap faults ((w.ensures.passed e).1)))
    (λ e f. subst (Appends old.taken (taken w.new.sink)) c.slice.ensures (w.ensures.wrote e f))
    (λ e f. subst (AppendsPart old.taken (taken w.new.sink)) c.slice.ensures (w.ensures.lost e f))
    w.ensures.rose w.ensures.later)
