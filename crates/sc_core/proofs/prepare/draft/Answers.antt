use Rattle.std.proofs.Common.{ap, ◌∙◌}
use Rattle.sc_core.specs.Bodies.{image}
use Rattle.sc_machine.specs.Commands.{answer, cancel, install, post, start, step, tick}
use Rattle.sc_machine.specs.Hosts.{session_named}
use Rattle.sc_core.proofs.DraftLemmas.{each_ok}
use Rattle.sc_core.proofs.NextLemmas.{answer_cancel, answer_install, answer_post, answer_start, answer_step, answer_tick, prepares_as}
use Rattle.sc_core.proofs.prepare.draft.Goals as goal

pub returns-in-Install-clause-answer : goal.returns-in-Install-clause-answer
returns-in-Install-clause-answer g c =
    let h = image c.args.body.now in
    each_ok (λ p prepared. prepares_as h (install h c.in-Install.name c.in-Install.chart) (answer h c.args.command.now) p
    (ap (answer h) c.in-Install.is ∙ answer_install h c.in-Install.name c.in-Install.chart) prepared) c.draft_install.result c.draft_install.ensures.answer

pub returns-in-Start-clause-answer : goal.returns-in-Start-clause-answer
returns-in-Start-clause-answer g c =
    let h = image c.args.body.now in
    each_ok (λ p prepared. prepares_as h (start h c.in-Start.session c.in-Start.chart) (answer h c.args.command.now) p
    (ap (answer h) c.in-Start.is ∙ answer_start h c.in-Start.session c.in-Start.chart) prepared) c.draft_start.result c.draft_start.ensures.answer

pub returns-in-Start-clause-plans : goal.returns-in-Start-clause-plans
returns-in-Start-clause-plans g c = each_ok (λ p none. none g.E.Engine.chart_of) c.draft_start.result c.draft_start.ensures.none

pub returns-in-Post-clause-answer : goal.returns-in-Post-clause-answer
returns-in-Post-clause-answer g c =
    let h = image c.args.body.now in
    each_ok (λ p prepared. prepares_as h (post h c.in-Post.session c.in-Post.event c.in-Post.pairs) (answer h c.args.command.now) p
    (ap (answer h) c.in-Post.is ∙ answer_post h c.in-Post.session c.in-Post.event c.in-Post.pairs) prepared) c.draft_post.result c.draft_post.ensures.answer

pub returns-in-Post-clause-plans : goal.returns-in-Post-clause-plans
returns-in-Post-clause-plans g c = each_ok (λ p none. none g.E.Engine.chart_of) c.draft_post.result c.draft_post.ensures.none

pub returns-in-Tick-clause-answer : goal.returns-in-Tick-clause-answer
returns-in-Tick-clause-answer g c =
    let h = image c.args.body.now in
    each_ok (λ p prepared. prepares_as h (tick h c.in-Tick.ticks) (answer h c.args.command.now) p
    (ap (answer h) c.in-Tick.is ∙ answer_tick h c.in-Tick.ticks) prepared) c.draft_tick.result c.draft_tick.ensures.prepares

pub returns-in-Tick-clause-plans : goal.returns-in-Tick-clause-plans
returns-in-Tick-clause-plans g c = each_ok (λ p none. none g.E.Engine.chart_of) c.draft_tick.result c.draft_tick.ensures.plans

pub returns-in-Cancel-clause-answer : goal.returns-in-Cancel-clause-answer
returns-in-Cancel-clause-answer g c =
    let h = image c.args.body.now in
    each_ok (λ p prepared. prepares_as h (cancel h (session_named h c.in-Cancel.session)) (answer h c.args.command.now) p
    (ap (answer h) c.in-Cancel.is ∙ answer_cancel h c.in-Cancel.session) prepared) c.draft_cancel.result c.draft_cancel.ensures.answer

pub returns-in-Cancel-clause-plans : goal.returns-in-Cancel-clause-plans
returns-in-Cancel-clause-plans g c = each_ok (λ p none. none g.E.Engine.chart_of) c.draft_cancel.result c.draft_cancel.ensures.none

pub returns-in-Step-clause-answer : goal.returns-in-Step-clause-answer
returns-in-Step-clause-answer g c =
    let h = image c.args.body.now in
    each_ok (λ p prepared. prepares_as h (step h (session_named h c.in-Step.session)) (answer h c.args.command.now) p
    (ap (answer h) c.in-Step.is ∙ answer_step h c.in-Step.session) prepared) c.draft_step.result c.draft_step.ensures.step

pub returns-in-Step-clause-plans : goal.returns-in-Step-clause-plans
returns-in-Step-clause-plans g c = each_ok (λ p none. none g.E.Engine.chart_of) c.draft_step.result c.draft_step.ensures.none
