use Rattle.std.proofs.Common.{ℕ, ap, sym, ◌∙◌}
use Rattle.sc_types.specs.declared.chart.Node.{Node}
use Rattle.sc_law.specs.Invokes.{start_invoke}
use Rattle.sc_law.specs.Nodes.{kids}
use Rattle.sc_exec.specs.Runs.{running_of}
use Rattle.sc_turn.proofs.KidLemmas.{kids-are}
use Rattle.sc_turn.proofs.StepLemmas.{all-invokes}
use Rattle.sc_turn.proofs.invoking.start_of.Goals as goal

pub start_invoke-requires-clause-run : goal.start_invoke-requires-clause-run
start_invoke-requires-clause-run c = c.loop-place.invariant.run

pub returns-clause-ok : goal.returns-clause-ok
returns-clause-ok c =
    all-invokes c.args.t.now c.args.s c.loop-place.place
    (λ (p : ℕ × Node). start_invoke c.args.t.now c.args.s p.0 p.1) c.slice-node-items.result.now
    (running_of c.args.run.now) (running_of c.loop-place.run)
    (kids-are c.args.t.now c.args.s c.chart-chart.ensures.legal c.requires.s ∙ ap kids (sym c.element.ensures)
    ∙ sym c.slice-node-items.ensures)
    c.loop-place.invariant.rest c.loop-place-test.false
