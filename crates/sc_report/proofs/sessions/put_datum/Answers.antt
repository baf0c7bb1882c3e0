use Rattle.sc_report.proofs.OutletLemmas.{puts_then}
use Rattle.sc_report.proofs.sessions.put_datum.Goals as goal

pub returns : goal.returns
returns g c = rw (← c.bytes.ensures.value) (puts_then (puts_then c.texts.ensures c.put_setting.ensures) c.end_line.ensures)
