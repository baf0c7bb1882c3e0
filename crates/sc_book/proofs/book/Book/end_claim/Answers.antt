use Rattle.std.proofs.Common.{sym, subst}
use Rattle.sc_book.specs.Books.{BookOf, IsBook}
use Rattle.sc_book.specs.Keeping.{book_of}
use Rattle.sc_book.proofs.ClaimLemmas.{is_claimed}
use Rattle.sc_book.proofs.book.Book.end_claim.Goals as goal

pub invariant_of-self : goal.invariant_of-self
invariant_of-self g c =
    let law = g.D.Disk.law in
    let i = c.self.inside in
    let b : BookOf g.row.D.Denot = book_of i.host i.opened i.start i.log i.claims i.journal in
    record {
      past = c.self.invariant.past;
      is = is_claimed law c.self.invariant.past b c.remove.new.self.places c.self.invariant.is;
    }

pub returns-clause-kept : goal.returns-clause-kept
returns-clause-kept g c = λ past is.
    let law = g.D.Disk.law in
    let i = c.self.inside in
    let b : BookOf g.row.D.Denot = book_of i.host i.opened i.start i.log i.claims i.journal in
    is_claimed law past b c.remove.new.self.places (subst (IsBook law past) (sym c.self.view_is) is)
