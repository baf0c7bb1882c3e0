use Rattle.std.proofs.Common.{◌++◌, ◌∷◌, [], cond, ap, sym, ◌∙◌}
use Rattle.sc_tables.specs.Blocks.{is_history_in}
use Rattle.sc_tables.proofs.KindLists.{filtered-more}
use Rattle.sc_tables.proofs.kinds.histories.Goals as goal

pub loop-state-preserved : goal.loop-state-preserved
loop-state-preserved c =
    let kinds = c.args.kinds.now in
    let s = c.loop-state.state in
    c.in_ok-push_if.ensures
    ∙ ap (λ v. c.loop-state.found ++ cond v (s ∷ []) []) c.is_history_at.ensures
    ∙ ap (λ xs. xs ++ cond (is_history_in kinds s) (s ∷ []) []) c.loop-state.invariant
    ∙ sym (filtered-more (is_history_in kinds) s)
