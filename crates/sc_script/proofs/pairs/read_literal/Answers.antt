use Rattle.std.proofs.Common.{sym}
use Rattle.sc_script.proofs.ShortNumberLemmas.{short_posted}
use Rattle.sc_script.proofs.pairs.read_literal.Goals as goal

pub returns-in-Some-clause-ok : goal.returns-in-Some-clause-ok
returns-in-Some-clause-ok c = short_posted c.args.text.now c.in-Some.value (sym c.in-Some.ensures)
