use Rattle.sc_turn.proofs.Begins.{can-begin}
use Rattle.sc_turn.proofs.FitsLaw.{given-fits, if-turned}
use Rattle.sc_turn.proofs.compiled.CompiledEngine.turn.Goals as goal

pub given-requires : goal.given-requires
given-requires c = can-begin c.args.plan.now c.args.before.now c.requires.fits

pub turned-requires-clause-fits : goal.turned-requires-clause-fits
turned-requires-clause-fits c =
    given-fits c.args.plan.now c.args.before.now c.args.cue.now c.in_ok-given.given c.requires.legal c.requires.fits c.requires.cue
    c.in_ok-given.ensures

pub returns-clause-fits : goal.returns-clause-fits
returns-clause-fits c =
    if-turned c.args.plan.now c.turned.result _ c.turned.ensures
    (given-fits c.args.plan.now c.args.before.now c.args.cue.now c.in_ok-given.given c.requires.legal c.requires.fits c.requires.cue
    c.in_ok-given.ensures)
