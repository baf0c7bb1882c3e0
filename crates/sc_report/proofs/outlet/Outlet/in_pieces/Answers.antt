use Rattle.std.proofs.Common.{length-drop, arith}
use Rattle.std.proofs.lemmas.List.{take_rest}
use Rattle.sc_report.proofs.OutletLemmas.{puts_next}
use Rattle.sc_report.proofs.outlet.Outlet.in_pieces.Goals as goal

pub loop-at-preserved : goal.loop-at-preserved
loop-at-preserved g c =
    let puts = simp take_rest at c.add-at.ensures.puts in
    let within = simp take_rest at c.add-at.ensures.within in (
      puts_next _ _ _ c.loop-at.at c.add-at.result c.args.bytes.now (c.loop-at.invariant.0) puts,
      omega (arith, within, c.loop-at.invariant.1, length-drop c.loop-at.at c.args.bytes.now),
    )
