use Rattle.sc_report.proofs.OutletLemmas.{puts_then}
use Rattle.sc_report.proofs.report.put_fault_line.Goals as goal

pub returns : goal.returns
returns g c = puts_then (puts_then c.bytes.ensures c.put_fault.ensures) c.end_line.ensures
