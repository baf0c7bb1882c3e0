use Rattle.std.proofs.Common.{◌≡◌, [], refl, arith, ◌∙◌}
use Rattle.std.proofs.lemmas.List.{get_or_read_under}
use Rattle.sc_tables.specs.Nearest.{path_at, IsNearest}
use Rattle.sc_tables.proofs.Above.{parents-more}
use Rattle.sc_tables.proofs.nearest.parents.Goals as goal

pub nearest-parent-requires-clause-placed : goal.nearest-parent-requires-clause-placed
nearest-parent-requires-clause-placed c =
    let paths = c.args.paths.now in
    let s = c.loop-state.state in
    let here : c.slice-in-loop-state.result.now ≡ path_at paths s =
    c.slice-in-loop-state.ensures ∙ get_or_read_under paths s _ _ [] c.index-paths-state.is c.loop-state-test.true refl in
    rw here (record { order = c.requires.order; within = omega arith; earlier = λ k l. c.requires.order.pairs k s [] l c.loop-state-test.true })

pub loop-state-preserved : goal.loop-state-preserved
loop-state-preserved c =
    let paths = c.args.paths.now in
    let s = c.loop-state.state in
    let here : c.slice-in-loop-state.result.now ≡ path_at paths s =
    c.slice-in-loop-state.ensures ∙ get_or_read_under paths s _ _ [] c.index-paths-state.is c.loop-state-test.true refl in
    let found : IsNearest paths s (path_at paths s) c.nearest-parent.result = rw here at c.nearest-parent.ensures in
    let more = parents-more paths c.loop-state.parents c.push.new.self c.nearest-parent.result s c.loop-state.invariant.size c.loop-state-test.true
    c.loop-state.invariant.has found c.in_ok-push.ensures.ok in
    record { size = more.size; has = more.has }
