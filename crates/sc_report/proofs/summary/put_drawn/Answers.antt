use Rattle.sc_report.proofs.OutletLemmas.{puts_then}
use Rattle.sc_report.proofs.summary.put_drawn.Goals as goal

pub returns : goal.returns
returns g c = puts_then (puts_then (puts_then c.counted.ensures c.bytes.ensures) c.number.ensures) c.end_line.ensures
