use Rattle.std.proofs.Common.{ap, ◌∙◌}
use Rattle.sc_bits.specs.Rows.{RowOf}
use Rattle.sc_select.proofs.ExitLemmas.{exit-nothing}
use Rattle.sc_select.proofs.kept.Exits.new.Goals as goal

pub returns : goal.returns
returns c = record {
  own = ap (λ (r : RowOf). r.width) c.in_ok-new.ensures ∙ c.count.ensures;
  other = ap (λ (r : RowOf). r.width) c.in_ok-new-2.ensures ∙ c.count-2.ensures;
  width = ap (λ (r : RowOf). r.width) c.in_ok-new-3.ensures ∙ c.count-3.ensures;
  all = ap (λ (r : RowOf). r.members) c.in_ok-new-3.ensures
      ∙ exit-nothing c.args.t.now c.args.h.now c.args.conf.now.members;
}
