use Rattle.std.proofs.Common.{◌++◌, [], ap, sym, ◌∙◌}
use Rattle.std.specs.List.{cons_option}
use Rattle.sc_law.specs.Runs.{id_row}
use Rattle.sc_turn.proofs.IdLists.{ids-more}
use Rattle.sc_turn.proofs.ids.chart_ids.Goals as goal

pub loop-s-preserved : goal.loop-s-preserved
loop-s-preserved c =
    c.in_ok-add_id.ensures ∙ ap (λ rows. rows ++ cons_option (id_row c.args.t.now c.loop-s.s) []) c.loop-s.invariant
    ∙ sym (ids-more (id_row c.args.t.now) c.loop-s.s)
