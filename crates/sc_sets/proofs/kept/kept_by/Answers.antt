use Rattle.std.proofs.Common.{◌≡◌, true, false, ap, sym, arith, ◌∙◌}
use Rattle.sc_base.specs.Ascending.{contains}
use Rattle.sc_law.specs.Configurations.{parent_of}
use Rattle.sc_law.specs.Kinds.{is_history}
use Rattle.sc_sets.proofs.KeptLists.{if_gives, kept_before}
use Rattle.sc_sets.proofs.Members.{past_row}
use Rattle.sc_sets.proofs.kept.kept_by.Goals as goal

pub returns-in_default : goal.returns-in_default
returns-in_default c =
    let k = c.args.t.now in
    let gone = c.args.exit.now.members in
    let is : is_history k c.args.s ≡ true = sym c.is_history.ensures ∙ c.if-not-is_history.false in
    let outside : contains gone (parent_of k c.args.s) ≡ false =
    ap (contains gone) (sym c.in_default.ensures.value)
    ∙ past_row 0 c.args.exit.now.width _ gone c.next-first.ensures.form (omega (arith, c.requires.exited)) in
    if_gives c.earlier.result _ _ c.earlier.ensures (kept_before k c.args.conf.now.members gone c.args.h.now c.args.s is outside)
