use Rattle.std.proofs.Common.{refl, ap, sym, ◌∙◌}
use Rattle.sc_bits.specs.Rows.{RowOf}
use Rattle.sc_base.specs.Folds.{each}
use Rattle.sc_law.specs.Invokes.{finalize, finalize_in}
use Rattle.sc_exec.specs.Runs.{running_of}
use Rattle.sc_exec.proofs.Kept.{kept_then}
use Rattle.sc_sets.proofs.Members.{all_from}
use Rattle.sc_select.proofs.RunLemmas.{run_kept}
use Rattle.sc_turn.proofs.StepLemmas.{member-end, member-step, none-run}
use Rattle.sc_turn.proofs.finalizing.finalize.Goals as goal

pub returns-then-is_empty-clause-ok : goal.returns-then-is_empty-clause-ok
unfolding finalize
returns-then-is_empty-clause-ok c =
    none-run c.args.t.now c.args.event.now c.args.run.now.env.configuration.members (running_of c.args.run.now)
    (c.if-is_empty.ensures.0 refl)

pub loop-s-init : goal.loop-s-init
loop-s-init c = record {
  rest = ap (λ ss. each (finalize_in c.args.t.now c.args.event.now) ss (running_of c.args.run.now))
      (all_from c.args.run.now.env.configuration.members);
  kept = record { configuration = refl; ids = refl; entered = refl; todo = refl };
  run = c.requires;
}

pub loop-s-preserved : goal.loop-s-preserved
loop-s-preserved c = record {
  rest = member-step (finalize_in c.args.t.now c.args.event.now) c.loop-s.run.env.configuration.width c.loop-s.from c.in-Some.s
      c.loop-s.run.env.configuration.members c.finalize_in.new.run.env.configuration.members (running_of c.loop-s.run)
      (running_of c.finalize_in.new.run) c.in-Some.ensures.form c.in-Some.ensures.value c.in-Some.ensures.within.0
      (ap (λ (r : RowOf). r.members) c.in_ok-finalize_in.ensures.kept.configuration) c.in_ok-finalize_in.ensures.ok
      ∙ c.loop-s.invariant.rest;
  kept = kept_then c.args.run.now c.loop-s.run c.finalize_in.new.run c.loop-s.invariant.kept c.in_ok-finalize_in.ensures.kept;
  run = run_kept c.args.t.now c.loop-s.run c.finalize_in.new.run c.loop-s.invariant.run c.in_ok-finalize_in.ensures.kept;
}

pub returns-clause-ok : goal.returns-clause-ok
unfolding finalize
returns-clause-ok c =
    sym c.loop-s.invariant.rest
    ∙ member-end (finalize_in c.args.t.now c.args.event.now) c.loop-s.from c.loop-s.run.env.configuration.members
    (running_of c.loop-s.run) c.in_default.ensures.value
