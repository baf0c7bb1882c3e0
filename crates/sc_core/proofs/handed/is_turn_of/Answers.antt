use Rattle.std.proofs.Common.{sym, ◌∙◌}
use Rattle.sc_core.proofs.HandedLemmas.{handed_is}
use Rattle.sc_core.proofs.handed.is_turn_of.Goals as goal

pub returns-in-Some : goal.returns-in-Some
returns-in-Some g c = λ yes s there.
    let of = c.is_of.ensures yes in
    handed_is c.args.body.now c.args.place c.in-Some.session.now c.args.cue.now c.args.turned.now s (sym c.in-Some.ensures)
    c.requires.settled there of.2 (of.1 ∙ c.state.ensures) (of.0 ∙ c.deref.ensures ∙ c.chart_at.ensures.chart s there)
