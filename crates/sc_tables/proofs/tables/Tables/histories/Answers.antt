use Rattle.std.proofs.Common.{◌≡◌, filter, ap, ◌∙◌}
use Rattle.std.specs.List.{range_with_len}
use Rattle.sc_types.specs.declared.chart.Chart.{Chart}
use Rattle.sc_law.specs.Kinds.{is_history}
use Rattle.sc_law.specs.Tree.{state_count}
use Rattle.sc_tables.proofs.KindLists.{histories-within}
use Rattle.sc_tables.proofs.tables.Tables.histories.Goals as goal

pub returns-clause-within : goal.returns-clause-within
returns-clause-within c =
    let is : c.slice.result.now ≡ filter (is_history c.args.self.now) (range_with_len 0 (state_count c.args.self.now)) =
    c.slice.ensures ∙ c.self.invariant.histories_are
    ∙ ap (λ (k : Chart). filter (is_history k) (range_with_len 0 (state_count k))) c.self.view_is in
    rw is (histories-within c.args.self.now)
