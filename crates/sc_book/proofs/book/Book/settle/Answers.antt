use Rattle.std.proofs.Common.{inl, inr, sym, subst}
use Rattle.sc_book.specs.Books.{BookOf, IsBook, first_head}
use Rattle.sc_book.specs.Keeping.{book_of}
use Rattle.sc_book.specs.Receipts.{IsAllOrDoubted}
use Rattle.sc_journal.specs.Stops.{LeavesOnly}
use Rattle.sc_book.proofs.BookLemmas.{during_settle, settled}
use Rattle.sc_book.proofs.book.Book.settle.Goals as goal

pub invariant_of-self : goal.invariant_of-self
invariant_of-self g c =
    let laws = g.met.D.Disk g.world.𝓛 g.world.𝓜 g.world.𝓡 ((λ s x. x), (λ x. x), (λ x. x), λ x. x) in
    let law = g.D.Disk.law in
    let i = c.self.inside in
    let b : BookOf g.row.D.Denot = book_of i.host i.opened i.start i.log i.claims i.journal in
    let j = c.settle.new.self in
    let e = c.in_err-settle.ensures in
    record {
      past = c.self.invariant.past;
      is = settled law laws.only_now c.self.invariant.past b j c.self.invariant.is e.next (inr e.doubtful) e.elapsed
          (λ bodies k. e.kept first_head bodies k) (λ bodies k. e.any_moment first_head bodies k);
    }

pub returns-in_err-settle-clause-kept : goal.returns-in_err-settle-clause-kept
returns-in_err-settle-clause-kept g c = λ past is.
    let laws = g.met.D.Disk g.world.𝓛 g.world.𝓜 g.world.𝓡 ((λ s x. x), (λ x. x), (λ x. x), λ x. x) in
    let law = g.D.Disk.law in
    let i = c.self.inside in
    let b : BookOf g.row.D.Denot = book_of i.host i.opened i.start i.log i.claims i.journal in
    let j = c.settle.new.self in
    let e = c.in_err-settle.ensures in
    settled law laws.only_now past b j (subst (IsBook law past) (sym c.self.view_is) is) e.next (inr e.doubtful) e.elapsed
    (λ bodies k. e.kept first_head bodies k) (λ bodies k. e.any_moment first_head bodies k)

pub returns-in_err-settle-clause-any_moment : goal.returns-in_err-settle-clause-any_moment
returns-in_err-settle-clause-any_moment g c = λ told past is.
    let laws = g.met.D.Disk g.world.𝓛 g.world.𝓜 g.world.𝓡 ((λ s x. x), (λ x. x), (λ x. x), λ x. x) in
    let law = g.D.Disk.law in
    let i = c.self.inside in
    let b : BookOf g.row.D.Denot = book_of i.host i.opened i.start i.log i.claims i.journal in
    let j = c.settle.new.self in
    let e = c.in_err-settle.ensures in
    subst (λ (x : BookOf g.row.D.Denot). LeavesOnly law x.journal.disk j.disk (IsAllOrDoubted past x)) c.self.view_is
    (during_settle law laws.only_now past b (subst (IsBook law past) (sym c.self.view_is) is) told j.disk
    (λ bodies k. e.any_moment first_head bodies k))

pub invariant_of-self-2 : goal.invariant_of-self-2
invariant_of-self-2 g c =
    let laws = g.met.D.Disk g.world.𝓛 g.world.𝓜 g.world.𝓡 ((λ s x. x), (λ x. x), (λ x. x), λ x. x) in
    let law = g.D.Disk.law in
    let i = c.self.inside in
    let b : BookOf g.row.D.Denot = book_of i.host i.opened i.start i.log i.claims i.journal in
    let j = c.settle.new.self in
    let e = c.in_ok-settle.ensures in
    record {
      past = c.self.invariant.past;
      is = settled law laws.only_now c.self.invariant.past b j c.self.invariant.is e.next (inl e.settled) e.elapsed
          (λ bodies k. e.kept first_head bodies k) (λ bodies k. e.any_moment first_head bodies k);
    }

pub returns-clause-kept : goal.returns-clause-kept
returns-clause-kept g c = λ past is.
    let laws = g.met.D.Disk g.world.𝓛 g.world.𝓜 g.world.𝓡 ((λ s x. x), (λ x. x), (λ x. x), λ x. x) in
    let law = g.D.Disk.law in
    let i = c.self.inside in
    let b : BookOf g.row.D.Denot = book_of i.host i.opened i.start i.log i.claims i.journal in
    let j = c.settle.new.self in
    let e = c.in_ok-settle.ensures in
    settled law laws.only_now past b j (subst (IsBook law past) (sym c.self.view_is) is) e.next (inl e.settled) e.elapsed
    (λ bodies k. e.kept first_head bodies k) (λ bodies k. e.any_moment first_head bodies k)

pub returns-clause-any_moment : goal.returns-clause-any_moment
returns-clause-any_moment g c = λ told past is.
    let laws = g.met.D.Disk g.world.𝓛 g.world.𝓜 g.world.𝓡 ((λ s x. x), (λ x. x), (λ x. x), λ x. x) in
    let law = g.D.Disk.law in
    let i = c.self.inside in
    let b : BookOf g.row.D.Denot = book_of i.host i.opened i.start i.log i.claims i.journal in
    let j = c.settle.new.self in
    let e = c.in_ok-settle.ensures in
    subst (λ (x : BookOf g.row.D.Denot). LeavesOnly law x.journal.disk j.disk (IsAllOrDoubted past x)) c.self.view_is
    (during_settle law laws.only_now past b (subst (IsBook law past) (sym c.self.view_is) is) told j.disk
    (λ bodies k. e.any_moment first_head bodies k))
