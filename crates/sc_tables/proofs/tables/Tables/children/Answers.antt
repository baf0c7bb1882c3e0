use Rattle.std.proofs.Common.{◌≤◌, ap, subst, sym, arith, ◌∙◌}
use Rattle.sc_types.specs.declared.chart.Chart.{Chart}
use Rattle.sc_law.specs.Tree.{state_count}
use Rattle.sc_law.specs.Configurations.{children}
use Rattle.sc_tables.specs.Rows.{row_of}
use Rattle.sc_tables.proofs.RangeRows.{list-at, list-length}
use Rattle.sc_tables.proofs.tables.Tables.children.Goals as goal

pub bounds-slice-s : goal.bounds-slice-s
bounds-slice-s c =
    let long = list-length _ _ _ (c.slice.ensures ∙ c.self.invariant.states_are.children) in
    let within = subst (λ (k : Chart). c.args.s ≤ state_count k) (sym c.self.view_is) c.requires in
    omega (arith, long, within)

pub returns : goal.returns
returns c =
    let within = subst (λ (k : Chart). c.args.s ≤ state_count k) (sym c.self.view_is) c.requires in
    list-at _ _ _ c.args.s c.index-slice-s.result (c.slice.ensures ∙ c.self.invariant.states_are.children) (omega (arith, within)) c.index-slice-s.is
    ∙ ap (λ (k : Chart). row_of k (children k c.args.s)) c.self.view_is
