use Rattle.std.proofs.Common.{◌==◌, filter, flat_map, ap, ◌∙◌}
use Rattle.sc_types.specs.declared.chart.Tag.TheVariants as tag
use Rattle.sc_law.specs.Configurations.{parent_of}
use Rattle.sc_law.specs.Content.{run_blocks}
use Rattle.sc_law.specs.Data.{with_tag}
use Rattle.sc_law.specs.Tree.{kids_of}
use Rattle.sc_exec.specs.Runs.{running_of}
use Rattle.sc_sets.specs.Triples.{triple_of}
use Rattle.sc_tables.proofs.TransitionLists.{if_ok}
use Rattle.sc_select.proofs.RunLemmas.{run_has_ids, run_kept}
use Rattle.sc_micro.proofs.EnterLemmas.{entered-is}
use Rattle.sc_micro.proofs.entering.enter_state.Goals as goal

pub late_data-requires-clause-ids : goal.late_data-requires-clause-ids
late_data-requires-clause-ids c = run_has_ids c.args.t.now c.join.new.run
    (c.join.ensures.run c.args.t.now c.requires.run)

pub run_tagged-requires : goal.run_tagged-requires
run_tagged-requires c =
    let k = c.args.t.now in
    let joined = c.join.ensures.run k c.requires.run in
    run_has_ids k c.late_data.new.run (run_kept k c.join.new.run c.late_data.new.run joined
    c.in_ok-late_data.ensures.kept)

pub run_initial-requires-clause-ids : goal.run_initial-requires-clause-ids
run_initial-requires-clause-ids c =
    let k = c.args.t.now in
    let joined = c.join.ensures.run k c.requires.run in
    let late = run_kept k c.join.new.run c.late_data.new.run joined c.in_ok-late_data.ensures.kept in
    run_has_ids k c.run_tagged.new.run (run_kept k c.late_data.new.run c.run_tagged.new.run late
    c.in_ok-run_tagged.ensures.kept)

pub run_noted-requires-clause-ids : goal.run_noted-requires-clause-ids
run_noted-requires-clause-ids c =
    let k = c.args.t.now in
    let joined = c.join.ensures.run k c.requires.run in
    let late = run_kept k c.join.new.run c.late_data.new.run joined c.in_ok-late_data.ensures.kept in
    let begun = run_kept k c.late_data.new.run c.run_tagged.new.run late c.in_ok-run_tagged.ensures.kept in
    run_has_ids k c.run_initial.new.run (run_kept k c.run_tagged.new.run c.run_initial.new.run begun
    c.in_ok-run_initial.ensures.kept)

pub returns-clause-ok : goal.returns-clause-ok
returns-clause-ok c =
    let k = c.args.t.now in
    if_ok c.tell.result _ _ c.tell.ensures.ok (λ e.
    entered-is k (triple_of c.args.e.now) c.args.s (running_of c.args.run.now) (running_of c.join.new.run)
    (running_of c.late_data.new.run)
    (running_of c.run_tagged.new.run) (running_of c.run_initial.new.run) (running_of c.run_noted.new.run)
    (running_of c.tell.new.run)
    c.has-was_entered.result c.has-was_entered.ensures c.join.ensures.value c.in_ok-late_data.ensures.ok
    (c.in_ok-run_tagged.ensures.ok
    ∙ ap (λ ns. run_blocks (with_tag tag.OnEntry ns) (running_of c.late_data.new.run)) c.kids_of.ensures)
    c.in_ok-run_initial.ensures.ok
    (c.in_ok-run_noted.ensures.ok
    ∙ ap (λ ns. run_blocks (flat_map (kids_of k) (filter (λ h. parent_of k h == c.args.s) ns))
    (running_of c.run_initial.new.run))
    c.slice.ensures) e)
