use Rattle.sc_types.specs.Values.{escaped}
use Rattle.sc_report.proofs.OutletLemmas.{puts_each}
use Rattle.sc_report.proofs.values.put_escaped.Goals as goal

pub loop-byte-preserved : goal.loop-byte-preserved
loop-byte-preserved g c =
    puts_each escaped c.args.text.now c.loop-byte.byte-index _ c.loop-byte-test.true c.loop-byte.invariant c.put_byte.ensures
