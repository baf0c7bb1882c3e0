use Rattle.std.proofs.Common.{◌≤◌, ap, subst, sym, arith, ◌∙◌}
use Rattle.sc_types.specs.declared.chart.Chart.{Chart}
use Rattle.sc_law.specs.Tree.{state_count}
use Rattle.sc_law.specs.Configurations.{defaults}
use Rattle.sc_tables.proofs.RangeRows.{list-at, list-length}
use Rattle.sc_tables.proofs.Within.{defaults_within}
use Rattle.sc_tables.proofs.tables.Tables.defaults.Goals as goal

pub bounds-slice-s : goal.bounds-slice-s
bounds-slice-s c =
    let long = list-length _ _ _ (c.slice.ensures ∙ c.self.invariant.defaults_are) in
    let within = subst (λ (k : Chart). c.args.s ≤ state_count k) (sym c.self.view_is) c.requires in
    omega (arith, long, within)

pub returns-clause-value : goal.returns-clause-value
returns-clause-value c =
    let within = subst (λ (k : Chart). c.args.s ≤ state_count k) (sym c.self.view_is) c.requires in
    c.slice-2.ensures
    ∙ list-at _ _ _ c.args.s c.index-slice-s.result (c.slice.ensures ∙ c.self.invariant.defaults_are) (omega (arith, within)) c.index-slice-s.is
    ∙ ap (λ (k : Chart). defaults k c.args.s) c.self.view_is

pub returns-clause-within : goal.returns-clause-within
returns-clause-within c =
    let is = returns-clause-value c in
    rw is (defaults_within c.args.self.now c.args.s)
