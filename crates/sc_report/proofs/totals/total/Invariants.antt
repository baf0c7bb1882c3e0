use Rattle.std.proofs.Common.{◌≡◌, ◌*◌, ℕ, ℤ, drop}
use Rattle.std.specs.Prelude.{◌+ℤ◌, ◌≤ℤ◌, neg_ℤ, pos}
use Rattle.sc_report.specs.Summary.{total}
use Rattle.sc_report.proofs.totals.total.Given as goal

-- at most 2^63 a session, either way
abbrev pub IsWithin : ℕ → ℤ → Type 0
IsWithin n z = (neg_ℤ (pos (n * 9223372036854775808)) ≤ℤ z) × (z ≤ℤ pos (n * 9223372036854775808))

abbrev pub invariant-loop-place : goal.invariant-loop-place
invariant-loop-place g l = ((l.total +ℤ total (drop l.place l.host.image.sessions)) ≡ total l.host.image.sessions) × IsWithin l.place l.total
