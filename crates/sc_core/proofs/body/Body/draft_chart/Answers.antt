use Rattle.std.proofs.Common.{ap, sym, ◌∙◌}
use Rattle.sc_types.specs.declared.command.Reply.TheVariants.{Installed}
use Rattle.sc_types.specs.declared.host.ChartImage.{ChartImage}
use Rattle.sc_core.specs.Bodies.{image}
use Rattle.sc_core.specs.Changes.{with_chart}
use Rattle.sc_machine.specs.Hosts.{chart_place}
use Rattle.sc_core.specs.declared.body.InstalledChart.{InstalledChart}
use Rattle.sc_core.specs.declared.change.Change.TheVariants.{Install}
use Rattle.sc_core.proofs.PrepareLemmas.{accepts, no_chart}
use Rattle.sc_core.proofs.body.Body.draft_chart.Goals as goal

pub returns-clause-answer : goal.returns-clause-answer
returns-clause-answer g c =
    let h = c.args.self.now in
    let made = ap (λ (i : InstalledChart _). i.image) c.in_ok-new.ensures ∙ c.in_ok-chart.ensures.image in
    let named = c.in_ok-copy.ensures in
    accepts (image h) (with_chart (image h) (record { name = c.args.name.now; text = c.args.text.now }))
    (Install c.in_ok-copy.field-0 c.in_ok-new.field-0) Installed c.accepted.result c.accepted.ensures.changes
    c.accepted.ensures.reply c.accepted.ensures.logs c.accepted.ensures.sent
    (ap (λ (i : ChartImage). i.name) made ∙ sym named, ap (chart_place (image h)) named ∙ no_chart (image h) c.args.name.now c.requires.new)
    tt (ap (with_chart (image h)) made) c.requires.commands
