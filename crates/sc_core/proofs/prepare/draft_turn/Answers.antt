use Rattle.std.proofs.Common.{slice_get, subst, ap, ◌∙◌}
use Rattle.sc_types.specs.declared.host.HostImage.{HostImage}
use Rattle.sc_law.specs.Turn.{turn}
use Rattle.sc_core.specs.Bodies.{image}
use Rattle.sc_machine.specs.Commands.{step_turn}
use Rattle.sc_machine.specs.Hosts.{chart_named}
use Rattle.sc_core.specs.Preparing.{Prepares}
use Rattle.sc_core.proofs.DraftLemmas.{each_ok}
use Rattle.sc_core.proofs.NextLemmas.{step_given, turn_named}
use Rattle.sc_core.proofs.PlanLemmas.{session_there}
use Rattle.sc_core.proofs.prepare.draft_turn.Goals as goal

pub draft_turn-requires-clause-there : goal.draft_turn-requires-clause-there
draft_turn-requires-clause-there g c =
    let place = c.args.place in
    let found = session_there c.args.body.now.sessions.items place c.requires.within in
    let there = ap (λ (h : HostImage). slice_get h.sessions place) c.settle.ensures.keeps.image ∙ found.1 in
    turn_named (image c.settle.new.self) place found.0 c.args.cue.now c.in_ok-given.given there
    (c.in_ok-given.ensures.turn found.0 there)

pub returns-clause-step : goal.returns-clause-step
returns-clause-step g c =
    let place = c.args.place in
    let cue = c.args.cue.now in
    let same = c.settle.ensures.keeps.image in
    let body = image c.settle.new.self in
    each_ok (λ p prepared s at.
    let there = ap (λ (h : HostImage). slice_get h.sessions place) same ∙ at in
    subst (λ (h : HostImage). Prepares (step_turn h place s cue (turn (chart_named h s.state.chart) s.state cue)) h p) same
    (step_given body place s cue c.in_ok-given.given p (c.in_ok-given.ensures.turn s there) (prepared s there))) c.draft_turn.result c.draft_turn.ensures.step
