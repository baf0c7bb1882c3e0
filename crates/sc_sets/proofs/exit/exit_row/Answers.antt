use Rattle.std.proofs.Common.{sym, ap, ◌∙◌}
use Rattle.sc_bits.specs.Rows.{RowOf}
use Rattle.sc_sets.proofs.ExitSets.{exit_none, exit_some}
use Rattle.sc_sets.proofs.exit.exit_row.Goals as goal

pub returns-in-None-clause-members : goal.returns-in-None-clause-members
returns-in-None-clause-members c =
    ap (λ (r : RowOf). r.members) c.clear.ensures
    ∙ sym (exit_none c.args.t.now c.args.h.now c.args.tr c.args.conf.now.members (sym c.in-None.ensures.value))

pub returns-in-Some-clause-members : goal.returns-in-Some-clause-members
returns-in-Some-clause-members c =
    c.keep_below.ensures.members
    ∙ sym (exit_some c.args.t.now c.args.h.now c.args.tr c.in-Some.domain c.args.conf.now.members (sym c.in-Some.ensures.value))
