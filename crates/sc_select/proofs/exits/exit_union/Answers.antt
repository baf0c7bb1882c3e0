use Rattle.std.proofs.Common.{ap, ◌∙◌}
use Rattle.sc_bits.specs.Rows.{RowOf}
use Rattle.sc_select.proofs.ExitLemmas.{exit-nothing, exit-step}
use Rattle.sc_select.proofs.exits.exit_union.Goals as goal

pub loop-tr-init : goal.loop-tr-init
loop-tr-init c = record {
  own = c.requires.own;
  width = ap (λ (r : RowOf). r.width) c.clear.ensures ∙ c.requires.all;
  members = ap (λ (r : RowOf). r.members) c.clear.ensures
      ∙ exit-nothing c.args.t.now c.args.h.now c.args.conf.now.members;
}

pub loop-tr-preserved : goal.loop-tr-preserved
loop-tr-preserved c = record {
  own = c.exit_row.ensures.width ∙ c.loop-tr.invariant.own;
  width = ap (λ (r : RowOf). r.width) c.join.ensures ∙ c.loop-tr.invariant.width;
  members = exit-step c.args.t.now c.args.h.now c.args.trs.now c.loop-tr.tr-index c.args.conf.now.members
      c.loop-tr.all.members
      c.exit_row.new.into.members c.join.new.self.members c.args.conf.now.width c.next-first.ensures.form
      c.loop-tr-test.true
      c.loop-tr.invariant.members c.exit_row.ensures.members (ap (λ (r : RowOf). r.members) c.join.ensures);
}
