use Rattle.std.proofs.Common.{refl, ap, sym, ◌∙◌}
use Rattle.sc_bits.specs.Rows.{RowOf}
use Rattle.sc_base.specs.Folds.{each}
use Rattle.sc_law.specs.Invokes.{start_of}
use Rattle.sc_exec.specs.Runs.{running_of}
use Rattle.sc_exec.proofs.Kept.{kept_then}
use Rattle.sc_sets.proofs.Members.{all_from}
use Rattle.sc_select.proofs.RunLemmas.{run_kept}
use Rattle.sc_turn.proofs.StepLemmas.{member-end, member-step}
use Rattle.sc_turn.proofs.invoking.start_all.Goals as goal

pub loop-s-init : goal.loop-s-init
loop-s-init c = record {
  rest = ap (λ ss. each (start_of c.args.t.now) ss (running_of c.args.run.now)) (all_from c.args.run.now.todo.members);
  kept = record { configuration = refl; ids = refl; entered = refl; todo = refl };
  run = c.requires;
}

pub loop-s-preserved : goal.loop-s-preserved
loop-s-preserved c = record {
  rest = member-step (start_of c.args.t.now) c.loop-s.run.todo.width c.loop-s.from c.in-Some.s
      c.loop-s.run.todo.members c.start_of.new.run.todo.members (running_of c.loop-s.run)
      (running_of c.start_of.new.run) c.in-Some.ensures.form c.in-Some.ensures.value c.in-Some.ensures.within.0
      (ap (λ (r : RowOf). r.members) c.in_ok-start_of.ensures.kept.todo) c.in_ok-start_of.ensures.ok
      ∙ c.loop-s.invariant.rest;
  kept = kept_then c.args.run.now c.loop-s.run c.start_of.new.run c.loop-s.invariant.kept c.in_ok-start_of.ensures.kept;
  run = run_kept c.args.t.now c.loop-s.run c.start_of.new.run c.loop-s.invariant.run c.in_ok-start_of.ensures.kept;
}

pub returns-clause-ok : goal.returns-clause-ok
returns-clause-ok c =
    sym c.loop-s.invariant.rest
    ∙ member-end (start_of c.args.t.now) c.loop-s.from c.loop-s.run.todo.members (running_of c.loop-s.run)
    c.in_default.ensures.value
