use Rattle.sc_report.specs.Entries.{log_text}
use Rattle.sc_report.proofs.OutletLemmas.{puts_item_of}
use Rattle.sc_report.proofs.entries.put_logs.Goals as goal

pub loop-log-preserved : goal.loop-log-preserved
loop-log-preserved g c =
    puts_item_of log_text c.args.logs.now c.loop-log.log-index c.log-item.result c.loop-log-test.true c.log-item.is
    c.loop-log.invariant c.put_log.ensures
