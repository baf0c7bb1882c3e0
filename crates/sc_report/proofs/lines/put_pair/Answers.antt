use Rattle.sc_report.proofs.OutletLemmas.{puts_then}
use Rattle.sc_report.proofs.lines.put_pair.Goals as goal

pub returns : goal.returns
returns g c = rw (← c.bytes.ensures.value) (puts_then c.texts.ensures c.put_value.ensures)
