-- No saying has the status of a program that is out of memory.
use Rattle.std.proofs.Common.{◌≡◌, ◌≢◌, ◌∙◌, ℕ, sym, arith}
use Rattle.sc_report.specs.declared.end.End.TheVariants as end
use Rattle.sc_top.specs.Sayings.{status_of}
use Rattle.sc_top.specs.Statuses.{code}
use Rattle.sc_top.specs.declared.saying.Saying.{Saying}
use Rattle.sc_top.specs.declared.saying.Saying.TheVariants as saying

never_seven : (s : Saying) → 7 ≡ code (status_of s) → ⊥
never_seven saying.OtherWords e = omega (arith, e)
never_seven saying.ReadFault e = omega (arith, e)
never_seven saying.DiskFault e = omega (arith, e)
never_seven saying.Created e = omega (arith, e)
never_seven saying.Exists e = omega (arith, e)
never_seven (saying.BadScript text) e = omega (arith, e)
never_seven (saying.BadJournal text) e = omega (arith, e)
never_seven (saying.Legal text) e = omega (arith, e)
never_seven (saying.Faulty fault) e = omega (arith, e)
never_seven (saying.Run form end.Quiet closed) e = omega (arith, e)
never_seven (saying.Run form end.Budget closed) e = omega (arith, e)
never_seven (saying.Run form end.Disk closed) e = omega (arith, e)
never_seven (saying.Run form end.Full closed) e = omega (arith, e)
never_seven (saying.Run form end.Shown closed) e = omega (arith, e)

pub not_out : (s : Saying) (status : ℕ) → (status ≢ 5 → status ≡ code (status_of s)) → status ≡ 7 → ⊥
not_out s status told is = never_seven s (sym is ∙ told (λ five. omega (arith, is, five)))
