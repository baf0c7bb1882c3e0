use Rattle.sc_report.proofs.OutletLemmas.{puts_then}
use Rattle.sc_report.proofs.sessions.put_phase.Goals as goal

pub returns-in-Ended : goal.returns-in-Ended
returns-in-Ended g c = rw (c.in-Ended.is) (puts_then c.put_how.ensures c.end_line.ensures)
