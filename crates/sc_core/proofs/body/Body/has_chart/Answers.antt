use Rattle.std.proofs.Common.{is_some, ap, ◌∙◌}
use Rattle.sc_core.specs.Bodies.{image}
use Rattle.sc_machine.specs.Hosts.{is_chart_named}
use Rattle.sc_core.proofs.PrepareLemmas.{some_position}
use Rattle.sc_core.proofs.body.Body.has_chart.Goals as goal

pub returns : goal.returns
returns g c =
    c.is_some.ensures ∙ ap is_some c.chart_place.ensures ∙ some_position (is_chart_named c.args.name.now) (image c.args.self.now).charts
