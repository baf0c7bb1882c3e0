use Rattle.std.proofs.Common.{Bool, subst, arith}
use Rattle.sc_pool.specs.Books.{seen_of}
use Rattle.sc_pool.specs.Sharing.{Steps}
use Rattle.sc_pool.proofs.PoolLemmas.{worker_failed, worker_made}
use Rattle.sc_pool.proofs.locked.Locked.step_once.Goals as goal

pub invariant_of-self : goal.invariant_of-self
invariant_of-self g c =
    let P : Bool → Type 0 = λ b. Steps b ((seen_of g.D.Disk.law) c.self.inside.book) ((seen_of g.D.Disk.law) c.step_first.new.book) in (
      worker_made _ _ _ _ _ c.self.invariant.0 (subst P c.in-Ok-true.field-0-test c.in-Ok-true.ensures.steps) c.in-Ok-true.ensures.goes_on
          (omega (arith, c.if-steps-self.false, c.steps.ensures, c.self.invariant.1)),
      c.self.invariant.1,
    )

pub invariant_of-self-in-Err : goal.invariant_of-self-in-Err
invariant_of-self-in-Err g c = (
  worker_failed _ _ _ _ _ c.in-Err.fault c.worse.result c.self.invariant.0 c.in-Err.ensures.steps c.in-Err.ensures.goes_on c.worse.ensures,
  c.self.invariant.1,
)
