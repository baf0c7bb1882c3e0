use Rattle.sc_report.specs.Entries.{delivery_text}
use Rattle.sc_report.proofs.OutletLemmas.{puts_item_of}
use Rattle.sc_report.proofs.entries.put_deliveries.Goals as goal

pub loop-delivery-preserved : goal.loop-delivery-preserved
loop-delivery-preserved g c =
    puts_item_of delivery_text c.args.sent.now c.loop-delivery.delivery-index c.delivery-item.result c.loop-delivery-test.true c.delivery-item.is
    c.loop-delivery.invariant c.put_delivery.ensures
