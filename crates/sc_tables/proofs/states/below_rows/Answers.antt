use Rattle.std.proofs.Common.{◌≡◌, [], refl, arith, ◌∙◌}
use Rattle.std.proofs.lemmas.List.{get_or_read_under}
use Rattle.sc_tables.specs.Built.{below_of}
use Rattle.sc_tables.specs.Nearest.{path_at}
use Rattle.sc_tables.proofs.Blocks.{block-of}
use Rattle.sc_tables.proofs.BlockRows.{below-row-same}
use Rattle.sc_tables.proofs.RangeRows.{list-more, list-done}
use Rattle.sc_tables.proofs.states.below_rows.Goals as goal

pub below_row-requires-clause-block : goal.below_row-requires-clause-block
below_row-requires-clause-block c =
    let paths = c.args.paths.now in
    let s = c.loop-state.state in
    let here : c.slice-path.result.now ≡ path_at paths s =
    c.slice-path.ensures ∙ get_or_read_under paths s _ _ [] c.index-paths-state.is (omega (arith, c.requires.count)) refl in
    rw here (block-of paths s c.requires.order (omega (arith, c.requires.count)))

pub loop-state-preserved : goal.loop-state-preserved
loop-state-preserved c =
    let paths = c.args.paths.now in
    let s = c.loop-state.state in
    let here : c.slice-path.result.now ≡ path_at paths s =
    c.slice-path.ensures ∙ get_or_read_under paths s _ _ [] c.index-paths-state.is (omega (arith, c.requires.count)) refl in
    list-more (below_of paths) c.loop-state.rows c.push.new.self s _ c.loop-state.invariant c.in_ok-push.ensures.ok
    (c.in_ok-below_row.ensures ∙ below-row-same paths s c.args.count c.slice-path.result.now c.requires.count here)

pub returns : goal.returns
returns c = list-done (below_of c.args.paths.now) c.loop-state.rows c.loop-state.state c.args.count c.loop-state.invariant (omega arith)
