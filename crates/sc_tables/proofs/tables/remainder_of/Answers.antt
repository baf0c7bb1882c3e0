use Rattle.std.proofs.Common.{◌≡◌, List, filter, ap, ◌∙◌, rules}
use Rattle.std.specs.List.{range_with_len}
use Rattle.sc_types.specs.declared.state_kind.StateKind.{StateKind}
use Rattle.sc_law.specs.Kinds.{is_history}
use Rattle.sc_law.specs.Tree.{state_count}
use Rattle.sc_tables.specs.Blocks.{is_history_in}
use Rattle.sc_tables.proofs.KindLists.{histories_of}
use Rattle.sc_tables.proofs.tables.remainder_of.Goals as goal

pub returns-clause-tables : goal.returns-clause-tables
returns-clause-tables c =
    let k = c.args.ids.now in
    let count : c.in_ok-count.count ≡ state_count k = search rules in
    let histories : c.in_ok-histories.histories ≡ filter (is_history k) (range_with_len 0 (state_count k)) =
    histories_of k c.args.states.now.kinds c.in_ok-count.count _ c.requires.states.kinds count
    (c.in_ok-histories.ensures
    ∙ ap (λ (ks : List StateKind). filter (is_history_in ks) (range_with_len 0 c.in_ok-count.count)) c.slice.ensures) in
    search rules
