use Rattle.std.proofs.Common.{◌≡◌, drop}
use Rattle.sc_base.specs.Folds.{each}
use Rattle.sc_types.specs.declared.session.Invoked.{Invoked}
use Rattle.sc_law.specs.Invokes.{finalized, forwarded}
use Rattle.sc_law.specs.Runs.{Running}
use Rattle.sc_eval.specs.Envs.{HasIds}
use Rattle.sc_exec.specs.Runs.{KeepsRows, running_of}
use Rattle.sc_turn.proofs.finalizing.finalize_at.Given as goal

abbrev pub invariant-loop-invoked : goal.invariant-loop-invoked
invariant-loop-invoked l = record {
  rest : each (λ (i : Invoked) (q : Running). forwarded l.node l.event i (finalized l.node l.event i q)) (drop l.invoked-index l.invoked-items) (running_of l.run)
      ≡ each (λ (i : Invoked) (q : Running). forwarded l.node l.event i (finalized l.node l.event i q)) l.invoked-items (running_of l.fn.run);
  kept : KeepsRows l.fn.run l.run;
  ids : HasIds l.run.env;
}
