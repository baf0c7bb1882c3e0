use Rattle.std.proofs.Common.{inl, inr, ◌≡◌, None, refl, sym, subst}
use Rattle.sc_book.specs.Books.{BookOf}
use Rattle.sc_book.specs.Claims.{steps_begun, unclaimed}
use Rattle.sc_book.proofs.ClaimLemmas.{not_reached}
use Rattle.sc_book.proofs.book.Book.claim.Goals as goal

pub returns-then-begun-budget-clause-ok : goal.returns-then-begun-budget-clause-ok
returns-then-begun-budget-clause-ok g c =
    record { why = inr ((c.begun.ensures c.args.budget c.ranges.budget.fits).0 c.if-begun-budget.true); same = refl }

pub take-requires-clause-within : goal.take-requires-clause-within
take-requires-clause-within g c κs within =
    not_reached c.args.budget (steps_begun c.args.self.now) c.begun.result
    (c.begun.ensures c.args.budget c.ranges.budget.fits).1 c.if-begun-budget.false

pub returns-in-None-clause-ok : goal.returns-in-None-clause-ok
returns-in-None-clause-ok g c = record {
  why = inl (subst (λ (x : BookOf g.row.D.Denot). unclaimed x ≡ None) c.self.view_is (sym c.in-None.ensures));
  same = refl;
}
