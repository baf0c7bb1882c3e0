use Rattle.std.proofs.Common.{List, [], slice_get, unwrap_or, ap, ap₂, ◌∙◌}
use Rattle.sc_types.specs.declared.chart.Chart.{Chart}
use Rattle.sc_law.specs.Nodes.{Path, element}
use Rattle.sc_law.specs.Tree.{state_element}
use Rattle.sc_tables.proofs.tables.Tables.element.Goals as goal

pub returns : goal.returns
returns c =
    c.element.ensures
    ∙ ap₂ (λ (k : Chart) (p : Path). element k p) c.deref.ensures
    (c.path_of.ensures ∙ ap (λ (ps : List Path). unwrap_or (slice_get ps c.args.s) []) c.self.invariant.states_are.paths)
    ∙ ap (λ (k : Chart). state_element k c.args.s) c.self.view_is
