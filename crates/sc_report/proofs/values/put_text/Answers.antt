use Rattle.sc_report.proofs.OutletLemmas.{puts_then}
use Rattle.sc_report.proofs.values.put_text.Goals as goal

pub returns : goal.returns
returns g c = puts_then (puts_then c.bytes.ensures c.put_escaped.ensures) c.bytes-2.ensures
