use Rattle.sc_report.specs.Lines.{pair_text}
use Rattle.sc_report.proofs.OutletLemmas.{puts_item_of}
use Rattle.sc_report.proofs.lines.put_pairs.Goals as goal

pub loop-pair-preserved : goal.loop-pair-preserved
loop-pair-preserved g c =
    puts_item_of pair_text c.args.pairs.now c.loop-pair.pair-index c.pair-item.result c.loop-pair-test.true c.pair-item.is
    c.loop-pair.invariant c.put_pair.ensures
