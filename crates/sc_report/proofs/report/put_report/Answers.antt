use Rattle.sc_report.proofs.OutletLemmas.{puts_then}
use Rattle.sc_report.proofs.report.put_report.Goals as goal

pub returns : goal.returns
returns g c =
    rw (← c.count.ensures)
    (puts_then (puts_then (puts_then (puts_then (puts_then c.counted_line.ensures c.put_entries.ensures) c.counted_line-2.ensures) c.put_sessions.ensures) c.put_clock.ensures) c.put_end.ensures)
