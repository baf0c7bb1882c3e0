use Rattle.std.proofs.Common.{rules, ◌≡◌, subst}
use Rattle.sc_book.specs.Books.{BookOf}
use Rattle.sc_book.specs.Claims.{step_at}
use Rattle.sc_book.specs.Receipts.{IsAllOrDoubted, IsDuring}
use Rattle.sc_journal.specs.Stops.{LeavesOnly}
use Rattle.sc_types.specs.declared.command.Command.{Command}
use Rattle.sc_book.proofs.BookLemmas.{during_both, during_first}
use Rattle.sc_book.proofs.book.Book.commit.Goals as goal

pub returns-in_err-settle-clause-any_moment : goal.returns-in_err-settle-clause-any_moment
returns-in_err-settle-clause-any_moment g c = λ told past is.
    let laws = g.met.D.Disk g.world.𝓛 g.world.𝓜 g.world.𝓡 ((λ s x. x), (λ x. x), (λ x. x), λ x. x) in
    let law = g.D.Disk.law in
    let e = c.in_err-settle.ensures in
    during_first law laws.only_now past c.args.self.now (step_at c.args.self.now.host c.args.ticket.place) c.settle.new.self.journal.disk
    (subst (λ (x : BookOf g.row.D.Denot). LeavesOnly law x.journal.disk c.settle.new.self.journal.disk (IsAllOrDoubted past x))
    c.end_claim.ensures.same (e.any_moment told past (c.end_claim.ensures.kept past is)))

pub returns-in_err-step-clause-any_moment : goal.returns-in_err-step-clause-any_moment
returns-in_err-step-clause-any_moment g c = λ told past is.
    let laws = g.met.D.Disk g.world.𝓛 g.world.𝓜 g.world.𝓡 ((λ s x. x), (λ x. x), (λ x. x), λ x. x) in
    let law = g.D.Disk.law in
    let e = c.in_ok-settle.ensures in
    during_first law laws.only_now past c.args.self.now (step_at c.args.self.now.host c.args.ticket.place) c.settle.new.self.journal.disk
    (subst (λ (x : BookOf g.row.D.Denot). LeavesOnly law x.journal.disk c.settle.new.self.journal.disk (IsAllOrDoubted past x))
    c.end_claim.ensures.same (e.any_moment told past (c.end_claim.ensures.kept past is)))

pub returns-clause-any_moment : goal.returns-clause-any_moment
returns-clause-any_moment g c = λ told past is.
    let laws = g.met.D.Disk g.world.𝓛 g.world.𝓜 g.world.𝓡 ((λ s x. x), (λ x. x), (λ x. x), λ x. x) in
    let law = g.D.Disk.law in
    let e = c.in_ok-settle.ensures in
    let kept = c.end_claim.ensures.kept past is in
    let named : c.in_ok-step.step ≡ step_at c.args.self.now.host c.args.ticket.place = search rules in
    let both = during_both law laws.only_now past c.end_claim.new.self c.settle.new.self c.in_ok-step.step c.answer.new.self.journal.disk
    e.book (e.any_moment told past kept) (c.answer.ensures.any_moment told past (e.kept past kept)) in
    subst (λ (k : Command). LeavesOnly law c.args.self.now.journal.disk c.answer.new.self.journal.disk (IsDuring past c.args.self.now k))
    named
    (subst (λ (x : BookOf g.row.D.Denot). LeavesOnly law x.journal.disk c.answer.new.self.journal.disk (IsDuring past x c.in_ok-step.step))
    c.end_claim.ensures.same both)
