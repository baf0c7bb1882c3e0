use Rattle.std.proofs.Common.{option_and_then, arith, ap, sym, ◌∙◌}
use Rattle.sc_types.specs.declared.chart.Chart.{Chart}
use Rattle.sc_law.specs.Tree.{id_of, node_of}
use Rattle.sc_turn.proofs.KidLemmas.{node-is, node-past}
use Rattle.sc_turn.proofs.plan.Plan.id_of.Goals as goal

pub returns-then-state-count : goal.returns-then-state-count
returns-then-state-count c =
    let k = c.self.inside.tables in
    c.text.ensures ∙ ap id_of c.element.ensures
    ∙ sym (ap (option_and_then id_of) (node-is k c.args.state c.chart-chart.ensures.legal (omega arith)))
    ∙ ap (λ (t : Chart). option_and_then id_of (node_of t c.args.state)) c.self.view_is

pub returns-else-state-count : goal.returns-else-state-count
returns-else-state-count c =
    let k = c.self.inside.tables in
    c.text-else-state-count.ensures ∙ ap id_of c.element-else-state-count.ensures
    ∙ sym (ap (option_and_then id_of) (node-past k c.args.state c.count-else-state-count.result (omega arith)
    c.count-else-state-count.ensures))
    ∙ ap (λ (t : Chart). option_and_then id_of (node_of t c.args.state)) c.self.view_is
