use Rattle.std.proofs.Common.{◌≡◌, length, sym, ◌∙◌, arith}
use Rattle.std.proofs.lemmas.Bool.Decides.{nat_tests}
use Rattle.sc_script.specs.Pairs.{pairs_of}
use Rattle.sc_script.proofs.PairLemmas.{onto, all_read}
use Rattle.sc_script.proofs.pairs.read_pairs.Goals as goal

pub returns-clause-ok : goal.returns-clause-ok
returns-clause-ok c =
    let none : length c.loop-rest.rest.now ≡ 0 = grind (arith, nat_tests, c.loop-rest-test.ensures) in
    let so_far : onto c.loop-rest.pairs (pairs_of c.loop-rest.rest.now) ≡ pairs_of c.args.text.now =
    c.loop-rest.invariant in
    sym so_far ∙ all_read c.loop-rest.pairs c.loop-rest.rest.now none
