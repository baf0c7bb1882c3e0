use Rattle.sc_turn.proofs.Begins.{can-begin}
use Rattle.sc_turn.proofs.FitsLaw.{if-given}
use Rattle.sc_turn.proofs.compiled.CompiledEngine.give.Goals as goal

pub given-requires : goal.given-requires
given-requires c = can-begin c.args.plan.now c.args.before.now c.requires.fits

pub returns-clause-fits : goal.returns-clause-fits
returns-clause-fits c =
    if-given c.args.plan.now c.args.before.now c.args.cue.now c.given.result c.requires.legal c.requires.fits c.requires.cue
    c.given.ensures
