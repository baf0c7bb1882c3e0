use Rattle.std.proofs.Common.{◌≡◌, ◌<◌, true, ap, eq-eqb, subst, sym, arith, ◌∙◌}
use Rattle.sc_base.specs.Ascending.{contains}
use Rattle.sc_bits.specs.Rows.{RowOf}
use Rattle.sc_types.specs.declared.chart.Chart.{Chart}
use Rattle.sc_law.specs.Tree.{is_below, root, state_count}
use Rattle.sc_tables.proofs.Within.{below_has, below_root_is}
use Rattle.sc_tables.proofs.tables.Tables.is_below.Goals as goal

pub returns-then-above-self : goal.returns-then-above-self
returns-then-above-self c =
    let within = subst (λ (k : Chart). c.args.s < state_count k) (sym c.self.view_is) c.requires.s in
    let is = below_root_is _ c.args.s c.self.invariant.legal within in
    let here = subst (λ (k : Chart). is_below k c.args.s (root k) ≡ true) c.self.view_is is in
    let number = c.if-above-self.true ∙ c.self.invariant.count_is ∙ ap root c.self.view_is in
    eq-eqb _ _ c.if-above-self.true ∙ sym (ap (is_below c.args.self.now c.args.s) number ∙ here)

pub below-requires : goal.below-requires
below-requires c =
    let other = c.if-above-self.false in
    let count = c.self.invariant.count_is ∙ ap state_count c.self.view_is in
    omega (arith, other, count, c.requires.above)

pub has-requires : goal.has-requires
has-requires c =
    let width = ap (λ (r : RowOf). r.width) c.below.ensures in
    omega (arith, width, c.requires.s)

pub returns-else-above-self : goal.returns-else-above-self
returns-else-above-self c =
    c.has.ensures ∙ ap (λ (r : RowOf). contains r.members c.args.s) c.below.ensures ∙ below_has c.args.self.now c.args.s c.args.above c.requires.s
