use Rattle.std.proofs.Common.{List, ap, subst}
use Rattle.sc_pool.specs.Clients.{KeepsMade}
use Rattle.sc_pool.specs.declared.client.Client.{Client}
use Rattle.sc_pool.proofs.ClientLemmas.{keeps_then, marked_keeps, marked_made, took_keeps, took_within}
use Rattle.sc_pool.proofs.PoolLemmas.{client_failed, client_made}
use Rattle.sc_pool.proofs.locked.Locked.next.Goals as goal

pub invariant_of-self : goal.invariant_of-self
invariant_of-self g c = (
  client_made _ _ _ _ _ _ c.args.place c.in-Next.number c.in-Next.command c.self.invariant.0 c.in-Next.ensures c.in-Ok.ensures.ok c.in-Ok.ensures.goes_on,
  c.self.invariant.1,
)

pub mark-requires : goal.mark-requires
mark-requires g c = took_within _ _ c.args.place c.in-Next.number c.in-Next.command c.in-Next.ensures

pub invariant_of-self-in-Err : goal.invariant_of-self-in-Err
invariant_of-self-in-Err g c = (
  client_failed _ _ _ _ _ _ _ c.args.place c.in-Next.number c.in-Next.command c.in-Err.fault c.worse.result c.self.invariant.0 c.in-Next.ensures c.mark.ensures
      c.in-Err.ensures.err c.in-Err.ensures.goes_on c.worse.ensures,
  c.self.invariant.1,
)

pub returns-in-Err : goal.returns-in-Err
returns-in-Err g c =
    let kept = keeps_then _ _ _ (took_keeps _ _ c.args.place c.in-Next.number c.in-Next.command c.in-Next.ensures)
    (marked_keeps _ _ c.args.place c.mark.ensures) in (
      marked_made _ _ c.args.place c.mark.ensures,
      subst (λ (before : List Client). KeepsMade before c.mark.new.clients) (ap (λ x. x.clients) c.self.view_is) kept,
    )
