use Rattle.sc_report.proofs.OutletLemmas.{puts_then}
use Rattle.sc_report.proofs.entries.put_delivery.Goals as goal

pub returns : goal.returns
returns g c = puts_then (puts_then c.bytes.ensures c.put_what.ensures) c.end_line.ensures
