use Rattle.sc_report.proofs.OutletLemmas.{puts_then}
use Rattle.sc_report.proofs.entries.put_heading.Goals as goal

pub returns : goal.returns
returns g c = puts_then (puts_then (puts_then c.number.ensures c.bytes.ensures) c.put_who.ensures) c.bytes-2.ensures
