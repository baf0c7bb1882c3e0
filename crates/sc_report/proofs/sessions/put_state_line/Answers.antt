use Rattle.sc_report.proofs.OutletLemmas.{puts_then}
use Rattle.sc_report.proofs.sessions.put_state_line.Goals as goal

pub returns : goal.returns
returns g c = rw (← c.bytes.ensures.value, ← c.bytes-2.ensures.value) (puts_then c.texts.ensures c.put_phase.ensures)
