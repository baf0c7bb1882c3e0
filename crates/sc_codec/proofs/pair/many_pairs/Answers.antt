use Rattle.std.proofs.lemmas.Result.{err_from_is_err_and}
use Rattle.sc_codec.specs.Reading.{pair_from, many_from}
use Rattle.sc_codec.proofs.Loop.{goes_on, ends, is_done}
use Rattle.sc_codec.proofs.pair.many_pairs.Goals as goal

pub returns-in_err-pair : goal.returns-in_err-pair
returns-in_err-pair c =
    let p = err_from_is_err_and c.from_residual.result c.from_residual.ensures.1 in
    rw (p.1, p.2) (ends pair_from c.in_err-pair.field-0.0 c.loop.pairs c.args.count c.loop.counter c.loop.rest.now
    (many_from pair_from c.args.count c.args.bytes.now) c.loop-test.true c.in_err-pair.ensures c.loop.invariant)

pub loop-preserved : goal.loop-preserved
loop-preserved c =
    rw c.in_ok-push.ensures.ok (goes_on pair_from c.loop.pairs c.args.count c.loop.counter c.loop.rest.now
    c.in_ok-pair.pair c.in_ok-pair.behind.now (many_from pair_from c.args.count c.args.bytes.now) c.loop-test.true
    c.in_ok-pair.ensures c.loop.invariant)

pub returns : goal.returns
returns c = is_done pair_from c.loop.pairs c.args.count c.loop.counter c.loop.rest.now
    (many_from pair_from c.args.count c.args.bytes.now) c.loop-test.false c.loop.invariant
