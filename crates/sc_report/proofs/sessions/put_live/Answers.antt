use Rattle.sc_report.proofs.OutletLemmas.{puts_then}
use Rattle.sc_report.proofs.sessions.put_live.Goals as goal

pub returns : goal.returns
returns g c = rw (← c.slice.ensures) (puts_then (puts_then c.put_active.ensures c.put_data.ensures) c.counted_line.ensures)
