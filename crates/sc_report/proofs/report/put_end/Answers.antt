use Rattle.sc_report.proofs.OutletLemmas.{puts_then}
use Rattle.sc_report.proofs.report.put_end.Goals as goal

pub returns : goal.returns
returns g c = rw (← c.word.ensures) (puts_then c.texts.ensures c.end_line.ensures)
