use Rattle.std.proofs.Common.{ap, ◌∙◌}
use Rattle.std.specs.Arc.{arc_value}
use Rattle.sc_types.specs.Elements.{is_numbered}
use Rattle.sc_types.specs.declared.chart.Chart.{Chart}
use Rattle.sc_law.specs.Nodes.{tag_of}
use Rattle.sc_tables.proofs.LegalRoots.{root_not_numbered}
use Rattle.sc_tables.proofs.tables.build.Goals as goal

pub new-requires-clause-root : goal.new-requires-clause-root
new-requires-clause-root c =
    ap (λ (k : Chart). is_numbered (tag_of k.root)) c.deref-2.ensures ∙ root_not_numbered (arc_value c.args.chart.now) c.requires.legal
