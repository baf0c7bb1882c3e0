use Rattle.std.proofs.Common.{ap, ap₂, sym, ◌∙◌}
use Rattle.sc_base.specs.Ascending.{joined}
use Rattle.sc_bits.specs.Rows.{RowOf}
use Rattle.sc_law.specs.Sets.{exit_set}
use Rattle.sc_tables.proofs.TransitionLists.{if_ok}
use Rattle.sc_select.proofs.ConflictLemmas.{none-conflict}
use Rattle.sc_select.proofs.ExitLemmas.{exit-more}
use Rattle.sc_select.proofs.KeepLemmas.{keep-apart}
use Rattle.sc_select.proofs.kept.keep.Goals as goal

pub returns-clause-value : goal.returns-clause-value
returns-clause-value c =
    let k = c.args.t.now in
    let h = c.args.h.now in
    let conf = c.args.conf.now.members in
    let kept = c.args.kept.now in
    let apart = none-conflict k h c.args.tr kept conf c.exit_row.new.into.members c.args.exits.now.all.members
    c.exit_row.ensures.members
    c.requires.exits.all (sym c.meets.ensures ∙ c.if-meets.false) in
    if_ok c.push.result _ _ c.push.ensures.ok (λ e. e ∙ keep-apart k h conf c.args.tr kept apart)

pub returns-clause-exits : goal.returns-clause-exits
returns-clause-exits c =
    let k = c.args.t.now in
    let h = c.args.h.now in
    let conf = c.args.conf.now.members in
    let kept = c.args.kept.now in
    if_ok c.push.result _ _ c.push.ensures.ok (λ e. record {
      own = c.exit_row.ensures.width ∙ c.requires.exits.own;
      other = c.requires.exits.other;
      width = ap (λ (r : RowOf). r.width) c.join.ensures ∙ c.requires.exits.width;
      all = ap (λ (r : RowOf). r.members) c.join.ensures ∙ ap₂ joined c.requires.exits.all c.exit_row.ensures.members
          ∙ exit-more k h kept c.args.tr conf c.args.conf.now.width c.next-first.ensures.form
          ∙ ap (λ ts. exit_set k h ts conf) (sym e);
    })
