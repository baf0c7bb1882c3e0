use Rattle.std.proofs.Common.{◌≡◌, [], sym, refl, arith, ◌∙◌}
use Rattle.std.proofs.lemmas.List.{get_or_past, get_or_read_under}
use Rattle.sc_tables.specs.Built.{children_of}
use Rattle.sc_tables.specs.Nearest.{path_at}
use Rattle.sc_tables.proofs.Blocks.{block-of, block-of-root}
use Rattle.sc_tables.proofs.BlockRows.{child-row-same}
use Rattle.sc_tables.proofs.RangeRows.{list-more, list-done}
use Rattle.sc_tables.proofs.states.child_rows.Goals as goal

pub child_row-requires-clause-block : goal.child_row-requires-clause-block
child_row-requires-clause-block c =
    let paths = c.args.paths.now in
    let s = c.loop-state.state in
    let here : c.slice-path.result.now ≡ path_at paths s =
    c.slice-path.ensures ∙ get_or_read_under paths s _ _ [] c.index-paths-state.is (omega (arith, c.requires.count)) refl in
    rw here (block-of paths s c.requires.order (omega (arith, c.requires.count)))

pub child_row-requires-2-clause-block : goal.child_row-requires-2-clause-block
child_row-requires-2-clause-block c = block-of-root c.args.paths.now c.requires.below

pub loop-state-preserved : goal.loop-state-preserved
loop-state-preserved c =
    let paths = c.args.paths.now in
    let s = c.loop-state.state in
    let here : c.slice-path.result.now ≡ path_at paths s =
    c.slice-path.ensures ∙ get_or_read_under paths s _ _ [] c.index-paths-state.is (omega (arith, c.requires.count)) refl in
    list-more (children_of c.args.kinds.now paths) c.loop-state.rows c.push.new.self s _ c.loop-state.invariant c.in_ok-push.ensures.ok
    (c.in_ok-child_row.ensures ∙ child-row-same c.args.kinds.now paths s c.args.count c.slice-path.result.now c.requires.count here)

pub returns : goal.returns
returns c =
    let e : c.loop-state.state ≡ c.args.count = omega arith in
    let so_far = list-done (children_of c.args.kinds.now c.args.paths.now) c.loop-state.rows c.loop-state.state c.args.count c.loop-state.invariant e in
    list-more (children_of c.args.kinds.now c.args.paths.now) c.loop-state.rows c.push-2.new.self c.args.count _ so_far c.in_ok-push-2.ensures.ok
    (c.in_ok-child_row-2.ensures ∙ child-row-same c.args.kinds.now c.args.paths.now c.args.count c.args.count [] c.requires.count
    (sym (get_or_past c.args.paths.now c.args.count [] (omega (arith, c.requires.count)))))
