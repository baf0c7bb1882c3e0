use Rattle.sc_report.proofs.OutletLemmas.{puts_then}
use Rattle.sc_report.proofs.sessions.put_active.Goals as goal

pub returns : goal.returns
returns g c = rw (← c.slice.ensures) (puts_then (puts_then c.bytes.ensures c.put_ids.ensures) c.end_line.ensures)
