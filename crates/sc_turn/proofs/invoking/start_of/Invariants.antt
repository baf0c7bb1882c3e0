use Rattle.std.proofs.Common.{◌≡◌, ℕ, drop, filter}
use Rattle.std.specs.List.{enumerate_from}
use Rattle.sc_base.specs.Folds.{each}
use Rattle.sc_types.specs.declared.chart.Node.{Node}
use Rattle.sc_types.specs.declared.chart.Tag.TheVariants as tag
use Rattle.sc_law.specs.Invokes.{start_invoke}
use Rattle.sc_law.specs.Nodes.{is_tag, tag_of}
use Rattle.sc_exec.specs.Runs.{KeepsRows, running_of}
use Rattle.sc_select.specs.Runs.{IsRunOf}
use Rattle.sc_turn.proofs.invoking.start_of.Given as goal

abbrev pub invariant-loop-place : goal.invariant-loop-place
invariant-loop-place l = record {
  rest : each (λ (p : ℕ × Node). start_invoke l.t l.s p.0 p.1)
      (filter (λ (p : ℕ × Node). is_tag tag.Invoke (tag_of p.1)) (enumerate_from l.place (drop l.place l.node-items))) (running_of l.run)
      ≡ each (λ (p : ℕ × Node). start_invoke l.t l.s p.0 p.1)
      (filter (λ (p : ℕ × Node). is_tag tag.Invoke (tag_of p.1)) (enumerate_from 0 l.node-items)) (running_of l.fn.run);
  kept : KeepsRows l.fn.run l.run;
  run : IsRunOf l.t l.run;
}
