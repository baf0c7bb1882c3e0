use Rattle.std.proofs.Common.{Err, ap}
use Rattle.std.proofs.lemmas.Result.{err_from_is_err_and}
use Rattle.sc_pool.proofs.BookLemmas.{added, failed, went_on}
use Rattle.sc_pool.proofs.book.answer.Goals as goal

pub returns-in_err-call-clause-err : goal.returns-in_err-call-clause-err
returns-in_err-call-clause-err g c =
    let p = err_from_is_err_and c.from_residual.result c.from_residual.ensures.1 in
    let why = c.in_err-call.ensures in
    rw (p.1, p.2) (failed g.D.Disk.law
    c.args.who c.args.command c.in_err-call.field-0.0 c.args.book.now c.call.new.self why.err why.doubts
    (λ e. why.disk (ap Err e)) (λ e. why.full (ap Err e)) (λ e. why.fits (ap Err e)) why.grows
    (λ other. why.fine (λ e. other (cc))))

pub returns-in_err-call-clause-goes_on : goal.returns-in_err-call-clause-goes_on
returns-in_err-call-clause-goes_on g c =
    let does = c.in_err-call.ensures in
    went_on g.D.Disk.law
    c.args.book.now c.call.new.self does.opened does.later does.same does.grows does.kept

pub returns-clause-ok : goal.returns-clause-ok
returns-clause-ok g c =
    added g.D.Disk.law
    c.args.who c.args.command c.args.book.now c.call.new.self _ c.in_ok-call.ensures.ok
    (c.in_ok-call.ensures.fine (λ e. cc))

pub returns-clause-goes_on : goal.returns-clause-goes_on
returns-clause-goes_on g c =
    let does = c.in_ok-call.ensures in
    went_on g.D.Disk.law
    c.args.book.now c.call.new.self does.opened does.later does.same does.grows does.kept
