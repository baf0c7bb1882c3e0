use Rattle.std.proofs.Common.{◌≡◌, filter, ap, sym, arith, ◌∙◌}
use Rattle.sc_base.specs.Ascending.{contains}
use Rattle.sc_bits.specs.Rows.{RowOf}
use Rattle.sc_law.specs.Tree.{is_below, root, state_count}
use Rattle.sc_tables.specs.Rows.{below}
use Rattle.sc_sets.proofs.BelowSets.{filter_same, root_keeps, row_says}
use Rattle.sc_sets.proofs.Members.{row_within}
use Rattle.sc_sets.proofs.exit.keep_below.Goals as goal

pub returns-then-above-count-clause-members : goal.returns-then-above-count-clause-members
returns-then-above-count-clause-members c =
    let t = c.args.t.now in
    let a = c.args.above in
    ap (λ (r : RowOf). r.members) c.meet.ensures
    ∙ ap (λ (r : RowOf). filter (λ m. contains r.members m) c.copy_from.new.self.members) c.below.ensures
    ∙ ap (λ (r : RowOf). filter (λ m. contains (below t a) m) r.members) c.copy_from.ensures
    ∙ filter_same (contains (below t a)) (λ s. is_below t s a) (λ s. row_says t s a) c.args.conf.now.members

pub returns-else-above-count-clause-members : goal.returns-else-above-count-clause-members
returns-else-above-count-clause-members c =
    let t = c.args.t.now in
    let is_root : c.args.above ≡ root t = omega (arith, c.count.ensures, c.if-above-count.false, c.requires.above) in
    let within = row_within (state_count t) c.args.conf.now.members (rw c.requires.width at c.next-first.ensures.form) in
    ap (λ (r : RowOf). r.members) c.copy_from.ensures ∙ sym (ap (λ a. filter (λ s. is_below t s a) c.args.conf.now.members) is_root
    ∙ root_keeps t c.args.conf.now.members c.chart-chart.ensures.legal within)
