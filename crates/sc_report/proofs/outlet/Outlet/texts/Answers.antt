use Rattle.sc_report.proofs.OutletLemmas.{puts_text}
use Rattle.sc_report.proofs.outlet.Outlet.texts.Goals as goal

pub loop-text-preserved : goal.loop-text-preserved
loop-text-preserved g c =
    puts_text (λ t. t.now) c.args.texts.now c.loop-text.text-index _ c.loop-text-test.true c.loop-text.invariant c.bytes.ensures
