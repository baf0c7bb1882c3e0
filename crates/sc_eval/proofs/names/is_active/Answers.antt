use Rattle.std.proofs.Common.{sym, ◌∙◌}
use Rattle.sc_eval.proofs.Rows.{within_found}
use Rattle.sc_eval.proofs.names.is_active.Goals as goal

pub has-requires : goal.has-requires
has-requires c =
    within_found _ c.deref.result.now c.args.id.now _ (rw c.deref.ensures c.requires.within) (sym c.state.ensures ∙ c.in-Some.is)
