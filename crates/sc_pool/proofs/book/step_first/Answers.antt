use Rattle.std.proofs.Common.{◌≡◌, ◌∙◌, Some, refl, sym, ap, rules}
use Rattle.sc_machine.specs.Cues.{ready}
use Rattle.sc_types.specs.declared.command.Command.TheVariants.{Step}
use Rattle.sc_pool.proofs.BookLemmas.{distinct_in, first_stepped, step_added}
use Rattle.sc_pool.proofs.book.step_first.Goals as goal

pub returns-clause-steps : goal.returns-clause-steps
returns-clause-steps g c =
    let name = c.in_ok-session.session in
    let at : ready c.host.result.now.image ≡ Some name = search rules in
    let is_ready : ready c.args.book.now.host ≡ Some name = ap ready (sym c.host.ensures.host) ∙ at in
    let distinct = distinct_in g.D.Disk.law c.args.book.now c.host.ensures.book in
    step_added g.D.Disk.law
    (Step name) c.args.book.now c.call.new.self _ (first_stepped c.args.book.now.host name (Step name) distinct is_ready refl)
    c.in_ok-call.ensures.ok (c.in_ok-call.ensures.fine (λ e. cc))
