use Rattle.sc_report.proofs.OutletLemmas.{puts_item, puts_list}
use Rattle.sc_report.proofs.values.+print.Goals as goal

pub put_values-loop-i-init : goal.put_values-loop-i-init
put_values-loop-i-init g t c = c.bytes.ensures

pub put_values-loop-i-preserved : goal.put_values-loop-i-preserved
put_values-loop-i-preserved g t c =
    puts_item c.args.items.now c.loop-i.i c.index-items-i.result c.loop-i-test.true c.index-items-i.is c.loop-i.invariant
    c.put_comma.ensures c.put_value.ensures

pub put_values-returns : goal.put_values-returns
put_values-returns g t c = puts_list c.args.items.now c.loop-i.i c.loop-i-test.false c.loop-i.invariant c.bytes-2.ensures
