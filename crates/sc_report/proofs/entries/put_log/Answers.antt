use Rattle.sc_report.proofs.OutletLemmas.{puts_then}
use Rattle.sc_report.proofs.entries.put_log.Goals as goal

pub returns : goal.returns
returns g c = rw (← c.slice.ensures) (puts_then (puts_then (puts_then (puts_then c.bytes.ensures c.put_text.ensures) c.bytes-2.ensures) c.put_value.ensures) c.end_line.ensures)
