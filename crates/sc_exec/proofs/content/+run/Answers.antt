use Rattle.std.proofs.lemmas.Result.{err_from_is_err_and}
use Rattle.std.proofs.Common.{Err, ◌+◌, ◌<◌, ap, subst, sym, ◌∙◌, rules, arith, drop, length, map, slice_range, option_copied}
use Rattle.sc_types.specs.declared.chart.Tag.TheVariants as tag
use Rattle.sc_law.specs.Content.{part, run_parts}
use Rattle.sc_law.specs.Outcomes.{Outcome, on_done}
use Rattle.sc_exec.specs.Branches.{chosen}
use Rattle.sc_exec.specs.Runs.{Does, running_of}
use Rattle.sc_exec.proofs.Branching.{branch_next, branch_none, branch_runs}
use Rattle.sc_exec.proofs.Kept.{has_ids, kept_then}
use Rattle.sc_exec.proofs.Stepping.{fault_passes, step_parts}
use Rattle.sc_exec.proofs.Parts.{runs_as, runs_other, runs_send}
use Rattle.sc_exec.proofs.content.+run.Goals as goal

pub element-returns-in-Raise-clause-outcome : goal.element-returns-in-Raise-clause-outcome
element-returns-in-Raise-clause-outcome t c =
    rw (runs_as c.args.node.now tag.Raise (running_of c.args.run.now) c.in-Raise.is) c.raise.ensures.outcome

pub element-returns-in-If-clause-outcome : goal.element-returns-in-If-clause-outcome
element-returns-in-If-clause-outcome t c =
    rw (runs_as c.args.node.now tag.If (running_of c.args.run.now) c.in-If.is) c.choice.ensures.outcome

pub element-returns-in-ForEach-clause-outcome : goal.element-returns-in-ForEach-clause-outcome
element-returns-in-ForEach-clause-outcome t c =
    rw (runs_as c.args.node.now tag.ForEach (running_of c.args.run.now) c.in-ForEach.is) c.for_each.ensures.outcome

pub element-returns-in-Log-clause-outcome : goal.element-returns-in-Log-clause-outcome
element-returns-in-Log-clause-outcome t c =
    rw (runs_as c.args.node.now tag.Log (running_of c.args.run.now) c.in-Log.is) c.log.ensures.outcome

pub element-returns-in-Assign-clause-outcome : goal.element-returns-in-Assign-clause-outcome
element-returns-in-Assign-clause-outcome t c =
    rw (runs_as c.args.node.now tag.Assign (running_of c.args.run.now) c.in-Assign.is) c.assign.ensures.outcome

pub element-returns-in-Send-clause-outcome : goal.element-returns-in-Send-clause-outcome
element-returns-in-Send-clause-outcome t c =
    rw (runs_send c.args.node.now (running_of c.args.run.now) c.in-Send.is) c.send.ensures.outcome

pub element-returns-in-Cancel-clause-outcome : goal.element-returns-in-Cancel-clause-outcome
element-returns-in-Cancel-clause-outcome t c =
    rw (runs_as c.args.node.now tag.Cancel (running_of c.args.run.now) c.in-Cancel.is) c.cancel.ensures.outcome

pub element-returns-in_default : goal.element-returns-in_default
element-returns-in_default t c = record {
  outcome = runs_other c.args.node.now (running_of c.args.run.now) c.in_default.not-Raise c.in_default.not-If
      c.in_default.not-ForEach c.in_default.not-Log c.in_default.not-Assign c.in_default.not-Send c.in_default.not-Cancel;
  kept = search rules;
}

pub choice-returns-then-branch-clause-outcome : goal.choice-returns-then-branch-clause-outcome
choice-returns-then-branch-clause-outcome t c =
    let same = branch_runs (option_copied c.loop-run.condition) c.slice-kids.result.now c.loop-run.start c.branch_end-end.result
    (running_of c.loop-run.run) (running_of c.holds.new.run) c.in_ok-holds.field-0 c.branch_end-end.ensures.value
    c.in_ok-holds.ensures.ok c.if-branch.true in
    subst (λ (o : Outcome). Does c.elements.result c.elements.new.run o) (sym same ∙ c.loop-run.invariant.steps) c.elements.ensures.outcome

pub choice-returns-then-end-kids-clause-outcome : goal.choice-returns-then-end-kids-clause-outcome
choice-returns-then-end-kids-clause-outcome t c =
    sym c.loop-run.invariant.steps
    ∙ branch_none (option_copied c.loop-run.condition) c.slice-kids.result.now c.loop-run.start c.branch_end-end.result
    (running_of c.loop-run.run) (running_of c.holds.new.run) c.in_ok-holds.field-0 c.branch_end-end.ensures.value
    c.in_ok-holds.ensures.ok c.if-branch.false c.if-end-kids.true

pub choice-loop-run-preserved : goal.choice-loop-run-preserved
choice-loop-run-preserved t c =
    let below : c.branch_end-end.result < length c.slice-kids.result.now = omega arith in
    record {
      within = omega arith;
      steps =
          ap (λ condition. chosen condition (drop (c.branch_end-end.result + 1) c.slice-kids.result.now) (running_of c.holds.new.run)) c.expr-condition-in-loop-run.ensures
          ∙ sym (branch_next (option_copied c.loop-run.condition) c.slice-kids.result.now c.loop-run.start c.branch_end-end.result
          (running_of c.loop-run.run) (running_of c.holds.new.run) c.in_ok-holds.field-0 c.index-kids-end.result
          c.branch_end-end.ensures.value c.in_ok-holds.ensures.ok c.if-branch.false below c.index-kids-end.is)
          ∙ c.loop-run.invariant.steps;
      kept = kept_then c.args.run.now c.loop-run.run c.holds.new.run c.loop-run.invariant.kept c.in_ok-holds.ensures.kept;
      ids = has_ids c.loop-run.run c.holds.new.run c.loop-run.invariant.ids c.in_ok-holds.ensures.kept;
    }

pub elements-returns-in_err-element-clause-outcome : goal.elements-returns-in_err-element-clause-outcome
elements-returns-in_err-element-clause-outcome t c =
    let p = err_from_is_err_and c.from_residual.result c.from_residual.ensures.1 in
    rw (p.1, p.2)
    (subst (λ (o : Outcome). Does (Err c.in_err-element.field-0.0) c.element.new.run o)
    (sym (step_parts c.args.nodes.now c.loop-place.place c.args.to c.index-nodes-place.result (running_of c.loop-place.run)
    c.loop-place-test.true c.requires.to c.index-nodes-place.is) ∙ c.loop-place.invariant.steps)
    (fault_passes c.in_err-element.field-0.0 c.element.new.run
    (run_parts (map part (slice_range c.args.nodes.now (c.loop-place.place + 1) c.args.to)))
    ((part c.index-nodes-place.result).runs (running_of c.loop-place.run)) c.in_err-element.ensures.outcome))

pub elements-loop-place-preserved : goal.elements-loop-place-preserved
elements-loop-place-preserved t c = record {
  steps =
      ap (on_done (run_parts (map part (slice_range c.args.nodes.now (c.loop-place.place + 1) c.args.to)))) (sym c.in_ok-element.ensures.outcome)
      ∙ sym (step_parts c.args.nodes.now c.loop-place.place c.args.to c.index-nodes-place.result (running_of c.loop-place.run)
      c.loop-place-test.true c.requires.to c.index-nodes-place.is)
      ∙ c.loop-place.invariant.steps;
  kept = kept_then c.args.run.now c.loop-place.run c.element.new.run c.loop-place.invariant.kept c.in_ok-element.ensures.kept;
  ids = has_ids c.loop-place.run c.element.new.run c.loop-place.invariant.ids c.in_ok-element.ensures.kept;
}
