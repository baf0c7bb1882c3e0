use Rattle.std.proofs.Common.{List, ℕ, ap₂, ◌∙◌}
use Rattle.std.specs.List.{list_any}
use Rattle.sc_base.specs.Ascending.{contains}
use Rattle.sc_select.proofs.ConflictLemmas.{exits-meet}
use Rattle.sc_select.proofs.conflicts.is_conflict.Goals as goal

pub returns-clause-value : goal.returns-clause-value
returns-clause-value c =
    c.meets.ensures
    ∙ ap₂ (λ (xs ys : List ℕ). list_any (λ m. contains xs m) ys) c.exit_row.ensures.members c.requires.own
    ∙ exits-meet c.args.t.now c.args.h.now c.args.tr c.args.other c.args.conf.now.members
