use Rattle.std.proofs.Common.{◌∙◌}
use Rattle.sc_core.specs.Bodies.{image}
use Rattle.sc_machine.specs.Hosts.{chart_named}
use Rattle.sc_machine.proofs.FitLemmas.{turned-fits, turned-is}
use Rattle.sc_core.proofs.handed.turn_by.Goals as goal

pub returns-then-is_turn_of-clause-turn : goal.returns-then-is_turn_of-clause-turn
returns-then-is_turn_of-clause-turn g c = λ s there.
    c.into_given.ensures.value
    ∙ turned-is (chart_named (image c.args.body.now) s.state.chart) s.state c.args.cue.now c.in-Some.turned
    (c.is_turn_of.ensures c.if-is_turn_of.true s there) c.into_given.ensures.turn

pub returns-then-is_turn_of-clause-fits : goal.returns-then-is_turn_of-clause-fits
returns-then-is_turn_of-clause-fits g c = λ s there running.
    turned-fits (chart_named (image c.args.body.now) s.state.chart) s.state c.args.cue.now c.in-Some.turned c.into_given.result
    (c.is_turn_of.ensures c.if-is_turn_of.true s there) c.into_given.ensures.turn c.into_given.ensures.value running
