use Rattle.std.proofs.Common.{◌++◌, codes, decimal}
use Rattle.sc_report.proofs.OutletLemmas.{puts_each}
use Rattle.sc_report.proofs.replies.put_path_rest.Goals as goal

pub loop-place-preserved : goal.loop-place-preserved
loop-place-preserved g c =
    puts_each (λ place. codes "." ++ decimal place) c.args.places.now c.loop-place.place-index _ c.loop-place-test.true
    c.loop-place.invariant c.counted.ensures
