use Rattle.sc_report.proofs.OutletLemmas.{puts_then}
use Rattle.sc_report.proofs.entries.put_stepped.Goals as goal

pub returns : goal.returns
returns g c =
    puts_then (puts_then (puts_then (puts_then (puts_then c.put_heading.ensures c.put_session.ensures) c.end_line.ensures)
    c.put_reply_line.ensures) c.put_logs.ensures) c.put_deliveries.ensures
