use Rattle.sc_book.proofs.BookLemmas.{during_both, during_first}
use Rattle.sc_book.proofs.book.Book.call.Goals as goal

pub returns-in_err-settle-clause-any_moment : goal.returns-in_err-settle-clause-any_moment
returns-in_err-settle-clause-any_moment g c = λ told past is.
    let laws = g.met.D.Disk g.world.𝓛 g.world.𝓜 g.world.𝓡 ((λ s x. x), (λ x. x), (λ x. x), λ x. x) in
    let law = g.D.Disk.law in
    during_first law laws.only_now past c.args.self.now c.args.command c.settle.new.self.journal.disk
    (c.in_err-settle.ensures.any_moment told past is)

pub returns-clause-any_moment : goal.returns-clause-any_moment
returns-clause-any_moment g c = λ told past is.
    let laws = g.met.D.Disk g.world.𝓛 g.world.𝓜 g.world.𝓡 ((λ s x. x), (λ x. x), (λ x. x), λ x. x) in
    let law = g.D.Disk.law in
    let e = c.in_ok-settle.ensures in
    during_both law laws.only_now past c.args.self.now c.settle.new.self c.args.command c.answer.new.self.journal.disk e.book
    (e.any_moment told past is) (c.answer.ensures.any_moment told past (e.kept past is))
