use Rattle.sc_report.proofs.OutletLemmas.{puts_then}
use Rattle.sc_report.proofs.report.put_clock.Goals as goal

pub returns : goal.returns
returns g c = rw (← c.clock.ensures, ← c.timers.ensures) (puts_then (puts_then (puts_then c.counted.ensures c.bytes.ensures) c.number.ensures) c.end_line.ensures)
