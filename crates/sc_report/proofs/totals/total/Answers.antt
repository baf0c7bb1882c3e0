use Rattle.std.proofs.Common.{◌≡◌, ◌<◌, ◌+◌, drop, length, sym, subst, arith, rules, ℤ, ◌+ℤ◌, FitsSigned, to_z, of_z, w64}
use Rattle.std.specs.Int.{w128}
use Rattle.std.proofs.lemmas.Int.{ints}
use Rattle.sc_report.specs.Summary.{total}
use Rattle.sc_report.proofs.TotalLemmas.{next_counts, next_total, stays_high, stays_low}
use Rattle.sc_report.proofs.totals.total.Invariants.{IsWithin}
use Rattle.sc_report.proofs.totals.total.Goals as goal

pub loop-place-preserved : goal.loop-place-preserved
loop-place-preserved g c =
    let sessions = c.args.host.now.image.sessions in
    let place = c.loop-place.place in
    let a = to_z w128 c.loop-place.total-bits in
    let n = c.counted_of.result in
    let fits : FitsSigned w64 n = search rules in
    let less : place < length sessions = search rules in
    let within = c.loop-place.invariant.1 in
    let whole : to_z w128 (of_z w128 (a +ℤ to_z w128 (of_z w128 c.from-total.result))) ≡ (a +ℤ n) = search (arith, ints, rules) in
    let next = next_counts sessions place n less c.counted_of.ensures in
    subst (λ (z : ℤ). ((z +ℤ total (drop (place + 1) sessions)) ≡ total sessions) × IsWithin (place + 1) z) (sym whole) (
      next_total a n _ _ _ c.loop-place.invariant.0 next,
      (stays_low place a n within.0 fits, stays_high place a n within.1 fits),
    )
