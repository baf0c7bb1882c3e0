use Rattle.std.proofs.Common.{Err, ap, rules}
use Rattle.std.proofs.lemmas.Result.{err_from_is_err_and}
use Rattle.sc_book.specs.Claims.{step_at}
use Rattle.sc_pool.proofs.BookLemmas.{distinct_in, place_stepped, place_within, ready_place, step_added, step_failed}
use Rattle.sc_pool.proofs.book.commit.Goals as goal

pub commit-requires-clause-within : goal.commit-requires-clause-within
commit-requires-clause-within g c κs within =
    place_within c.args.book.now.host c.args.ticket.place
    (ready_place _ _ _ _ _ c.host.ensures.host c.place.ensures (search rules) c.is_ready_at.ensures)

pub returns-in_err-commit-clause-steps : goal.returns-in_err-commit-clause-steps
returns-in_err-commit-clause-steps g c =
    let p = err_from_is_err_and c.from_residual.result c.from_residual.ensures.1 in
    let host = c.args.book.now.host in
    let place = c.args.ticket.place in
    let why = c.in_err-commit.ensures in
    let distinct = distinct_in g.D.Disk.law c.args.book.now c.host.ensures.book in
    let stepped = place_stepped host place distinct
    (ready_place _ _ _ _ _ c.host.ensures.host c.place.ensures (search rules) c.is_ready_at.ensures) in
    rw (p.1, p.2) (step_failed g.D.Disk.law (step_at host place) c.in_err-commit.field-0.0 c.args.book.now c.commit.new.self stepped why.err why.doubts
    (λ e. why.disk (ap Err e)) (λ e. why.full (ap Err e)) (λ e. why.fits (ap Err e)) why.grows
    (λ other. why.fine (λ e. other (cc))))

pub returns-clause-steps : goal.returns-clause-steps
returns-clause-steps g c =
    let host = c.args.book.now.host in
    let place = c.args.ticket.place in
    let distinct = distinct_in g.D.Disk.law c.args.book.now c.host.ensures.book in
    let stepped = place_stepped host place distinct
    (ready_place _ _ _ _ _ c.host.ensures.host c.place.ensures (search rules) c.is_ready_at.ensures) in
    step_added g.D.Disk.law
    (step_at host place) c.args.book.now c.commit.new.self _ stepped c.in_ok-commit.ensures.ok
    (c.in_ok-commit.ensures.fine (λ e. cc))
