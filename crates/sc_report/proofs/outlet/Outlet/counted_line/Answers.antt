use Rattle.sc_report.proofs.OutletLemmas.{puts_then}
use Rattle.sc_report.proofs.outlet.Outlet.counted_line.Goals as goal

pub returns : goal.returns
returns g c = puts_then c.counted.ensures c.end_line.ensures
