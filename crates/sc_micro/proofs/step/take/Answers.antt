use Rattle.std.proofs.Common.{ap, sym, ◌∙◌}
use Rattle.sc_law.specs.Runs.{Running}
use Rattle.sc_tables.proofs.TransitionLists.{if_ok}
use Rattle.sc_select.proofs.RunLemmas.{run_has_ids}
use Rattle.sc_select.specs.Runs.{run_state}
use Rattle.sc_micro.proofs.StayLemmas.{stays-is}
use Rattle.sc_micro.proofs.step.take.Goals as goal

pub run_contents-requires-clause-ids : goal.run_contents-requires-clause-ids
run_contents-requires-clause-ids c = run_has_ids c.args.t.now c.args.run.now c.requires.run

pub run_contents-requires-2-clause-ids : goal.run_contents-requires-2-clause-ids
run_contents-requires-2-clause-ids c = run_has_ids c.args.t.now c.exit_states.new.run c.in_ok-after.ensures.run

pub returns-then-are_in_order-clause-ok : goal.returns-then-are_in_order-clause-ok
returns-then-are_in_order-clause-ok c =
    let stays = stays-is c.args.t.now c.args.trs.now (run_state c.args.run.now c.args.h.now)
    (sym c.are_targetless.ensures ∙ c.if-are_targetless.true) (sym c.are_in_order.ensures ∙ c.if-are_in_order.true) in
    if_ok c.run_contents.result _ _ c.run_contents.ensures.ok (λ e.
    stays ∙ ap (λ (r : Running). record { running = r; histories = c.args.h.now }) (sym e))
