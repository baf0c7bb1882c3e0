use Rattle.sc_report.proofs.OutletLemmas.{puts_then}
use Rattle.sc_report.proofs.summary.put_summary.Goals as goal

pub returns : goal.returns
returns g c = puts_then (puts_then c.put_drawn.ensures c.put_counts.ensures) c.put_end.ensures
