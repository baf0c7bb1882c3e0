use Rattle.std.proofs.Common.{rules, arith, ◌≡◌, ℕ, Bool, true, false, nat_le, sym}
use Rattle.sc_base.specs.Ascending.{contains}
use Rattle.sc_core.specs.Bodies.{cued}
use Rattle.sc_book.proofs.ClaimLemmas.{claimed_more, cued_from, first_free, found_least, found_within, none_below, none_free}
use Rattle.sc_book.proofs.claims.first_unclaimed.Goals as goal

pub loop-place-init : goal.loop-place-init
loop-place-init g c = none_below c.args.claims.now.places (cued 0 c.args.host.now.image.sessions)

pub returns-then-not-has : goal.returns-then-not-has
returns-then-not-has g c =
    let claims = c.args.claims.now.places in
    let free : contains claims c.in-Some.place ≡ false = search rules in
    sym (first_free claims (cued 0 c.args.host.now.image.sessions) c.loop-place.from c.in-Some.place c.loop-place.invariant
    c.in-Some.ensures free)

pub overflow_add-from : goal.overflow_add-from
overflow_add-from g c =
    let test : ℕ → Bool = λ place. nat_le c.loop-place.from place in
    let less = found_within test c.in-Some.place c.args.host.now.image.sessions c.in-Some.ensures in
    omega (arith, less, c.count-count.ensures, c.count-count.type_inv)

pub loop-place-smaller : goal.loop-place-smaller
loop-place-smaller g c =
    let test : ℕ → Bool = λ place. nat_le c.loop-place.from place in
    let less = found_within test c.in-Some.place c.args.host.now.image.sessions c.in-Some.ensures in
    let least = found_least (cued 0 c.args.host.now.image.sessions) c.loop-place.from c.in-Some.place c.in-Some.ensures in
    omega (arith, less, least)

pub loop-place-preserved : goal.loop-place-preserved
loop-place-preserved g c =
    let claims = c.args.claims.now.places in
    let sessions = c.args.host.now.image.sessions in
    let claimed : contains claims c.in-Some.place ≡ true = search rules in
    claimed_more claims (cued 0 sessions) 0 c.loop-place.from c.in-Some.place (cued_from 0 sessions) c.loop-place.invariant
    c.in-Some.ensures claimed

pub returns : goal.returns
returns g c =
    sym (none_free c.args.claims.now.places (cued 0 c.args.host.now.image.sessions) c.loop-place.from c.loop-place.invariant
    c.in_default.ensures)
