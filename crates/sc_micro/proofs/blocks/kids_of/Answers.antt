use Rattle.std.proofs.Common.{ap, sym, ◌∙◌}
use Rattle.sc_law.specs.Nodes.{kids}
use Rattle.sc_micro.proofs.RootLemmas.{kids_are}
use Rattle.sc_micro.proofs.blocks.kids_of.Goals as goal

pub returns : goal.returns
returns c =
    c.slice.ensures ∙ ap kids c.element.ensures
    ∙ sym (kids_are c.args.t.now c.args.s c.chart-chart.ensures.legal c.requires)
