use Rattle.std.proofs.Common.{ap, ◌∙◌}
use Rattle.sc_base.specs.Folds.{each}
use Rattle.sc_law.specs.Entering.{enter_state}
use Rattle.sc_exec.specs.Runs.{running_of}
use Rattle.sc_sets.proofs.Members.{all_from}
use Rattle.sc_sets.specs.Triples.{triple_of}
use Rattle.sc_micro.proofs.EnterLemmas.{step-end, step-next}
use Rattle.sc_micro.proofs.entering.enter.Goals as goal

pub loop-s-init : goal.loop-s-init
loop-s-init c = record {
  steps = ap (λ ms. each (enter_state c.args.t.now (triple_of c.args.e.now)) ms (running_of c.args.run.now))
      (all_from c.args.e.now.states.members);
  run = c.requires.run;
}

pub loop-s-preserved : goal.loop-s-preserved
loop-s-preserved c = record {
  steps = step-next (enter_state c.args.t.now (triple_of c.args.e.now)) c.args.e.now.states.members
      c.args.e.now.states.width c.loop-s.from c.in-Some.s
      (running_of c.loop-s.run) (running_of c.enter_state.new.run) c.in-Some.ensures.form c.in-Some.ensures.value
      c.in-Some.ensures.within.0
      c.in_ok-enter_state.ensures.ok ∙ c.loop-s.invariant.steps;
  run = c.in_ok-enter_state.ensures.run;
}

pub returns-clause-ok : goal.returns-clause-ok
returns-clause-ok c =
    step-end (enter_state c.args.t.now (triple_of c.args.e.now)) c.args.e.now.states.members c.loop-s.from
    (running_of c.loop-s.run) c.in_default.ensures.value
    ∙ c.loop-s.invariant.steps
