use Rattle.sc_report.specs.Report.{datum_text}
use Rattle.sc_report.proofs.OutletLemmas.{puts_item_of}
use Rattle.sc_report.proofs.sessions.put_data.Goals as goal

pub loop-datum-preserved : goal.loop-datum-preserved
loop-datum-preserved g c =
    puts_item_of datum_text c.args.values.now c.loop-datum.datum-index c.datum-item.result c.loop-datum-test.true c.datum-item.is
    c.loop-datum.invariant c.put_datum.ensures
