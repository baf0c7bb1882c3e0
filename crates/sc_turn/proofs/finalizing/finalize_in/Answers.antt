use Rattle.std.proofs.Common.{ap, sym, ◌∙◌}
use Rattle.sc_law.specs.Invokes.{finalize_at}
use Rattle.sc_law.specs.Nodes.{kids}
use Rattle.sc_exec.specs.Runs.{running_of}
use Rattle.sc_turn.proofs.KidLemmas.{kids-are}
use Rattle.sc_select.proofs.RunLemmas.{run_has_ids}
use Rattle.sc_turn.proofs.StepLemmas.{all-invokes}
use Rattle.sc_turn.proofs.finalizing.finalize_in.Goals as goal

pub finalize_at-requires : goal.finalize_at-requires
finalize_at-requires c = run_has_ids c.args.t.now c.loop-place.run c.loop-place.invariant.run

pub returns-clause-ok : goal.returns-clause-ok
returns-clause-ok c =
    all-invokes c.args.t.now c.args.s c.loop-place.place (finalize_at c.args.s c.args.event.now) c.slice-node-items.result.now
    (running_of c.args.run.now) (running_of c.loop-place.run)
    (kids-are c.args.t.now c.args.s c.chart-chart.ensures.legal c.requires.s ∙ ap kids (sym c.element.ensures)
    ∙ sym c.slice-node-items.ensures)
    c.loop-place.invariant.rest c.loop-place-test.false
