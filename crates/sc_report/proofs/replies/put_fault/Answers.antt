use Rattle.sc_report.proofs.OutletLemmas.{puts_then}
use Rattle.sc_report.proofs.replies.put_fault.Goals as goal

pub returns : goal.returns
returns g c = rw (← c.slice.ensures) (puts_then (puts_then (puts_then c.number.ensures c.bytes.ensures) c.put_path.ensures) c.put_member.ensures)
