use Rattle.std.proofs.Common.{◌≡◌, subst, arith, rules, ℤ, FitsSigned, to_z, of_z}
use Rattle.std.specs.Fmt.{signed_decimal}
use Rattle.std.specs.Int.{w128}
use Rattle.std.proofs.lemmas.Int.{ints}
use Rattle.sc_report.specs.Outlets.{Puts, seen}
use Rattle.sc_report.proofs.OutletLemmas.{puts_then}
use Rattle.sc_report.proofs.summary.put_counts.Goals as goal

pub returns : goal.returns
returns g c =
    let fits : FitsSigned w128 c.total.result = search rules in
    let same : to_z w128 (of_z w128 c.total.result) ≡ c.total.result = omega (arith, ints, fits) in
    let put = subst (λ (z : ℤ). Puts (seen g.K.Sink.taken g.K.Sink.faults c.bytes-2.new.self)
    (seen g.K.Sink.taken g.K.Sink.faults c.put_total.new.out) (signed_decimal z)) same c.put_total.ensures in
    rw (← c.len.ensures, ← c.steps.ensures, ← c.total.ensures)
    (puts_then (puts_then (puts_then (puts_then (puts_then c.counted.ensures c.bytes.ensures) c.number.ensures) c.bytes-2.ensures)
    put) c.end_line.ensures)
