use Rattle.std.proofs.Common.{◌++◌, ap}
use Rattle.sc_core.specs.ChangeLists.{counted_of}
use Rattle.sc_core.proofs.InstallLemmas.{one_installed}
use Rattle.sc_core.proofs.body.Body.install_more.Goals as goal

pub loop-change-preserved : goal.loop-change-preserved
loop-change-preserved g c =
    let end = counted_of c.args.counted in
    one_installed (c.args.more.now ++ end) (c.loop-change.more ++ end) c.in-Some.change (c.pop_front.new.self ++ end)
    c.args.self.now c.loop-change.self c.change_any.new.self (ap (λ cs. cs ++ end) c.in-Some.ensures)
    c.loop-change.invariant c.change_any.ensures.makes c.change_any.ensures.newest c.change_any.ensures.charts
