use Rattle.std.proofs.Common.{◌≡◌, Some, [], length, ap, sym, refl, arith, ◌∙◌}
use Rattle.std.proofs.lemmas.List.{get_or_read_under}
use Rattle.sc_types.specs.Elements.{is_numbered}
use Rattle.sc_law.specs.Nodes.{element, tag_of}
use Rattle.sc_law.specs.Kinds.{kind_of, kind_at}
use Rattle.sc_law.specs.Tree.{state_element, state_paths}
use Rattle.sc_tables.specs.Nearest.{path_at}
use Rattle.sc_tables.proofs.KindLists.{kinds-more}
use Rattle.sc_tables.proofs.LookUps.{numbered-at, path-is}
use Rattle.sc_tables.proofs.states.kinds.Goals as goal

pub kind_of-requires : goal.kind_of-requires
kind_of-requires c =
    let chart = c.args.chart.now in
    let i = c.loop-path.path-index in
    let here : c.slice.result.now ≡ path_at c.args.paths.now i =
    c.slice.ensures ∙ get_or_read_under c.args.paths.now i _ _ [] c.path-item.is c.loop-path-test.true refl in
    let there : c.element.result.now ≡ element chart (path_at (state_paths chart) i) =
    c.element.ensures ∙ ap (element chart) here ∙ ap (λ ps. element chart (path_at ps i)) c.requires in
    let within = ap length c.requires in
    ap (λ n. is_numbered (tag_of n)) there ∙ numbered-at chart i (omega (arith, within))

pub loop-path-preserved : goal.loop-path-preserved
loop-path-preserved c =
    let chart = c.args.chart.now in
    let i = c.loop-path.path-index in
    let here : c.slice.result.now ≡ path_at c.args.paths.now i =
    c.slice.ensures ∙ get_or_read_under c.args.paths.now i _ _ [] c.path-item.is c.loop-path-test.true refl in
    let there : c.element.result.now ≡ state_element chart i =
    c.element.ensures ∙ ap (element chart) here ∙ ap (λ ps. element chart (path_at ps i)) c.requires ∙ ap (element chart) (sym (path-is chart i)) in
    let kind : Some c.kind_of.result ≡ kind_of chart i = c.kind_of.ensures ∙ ap (λ n. kind_at n (tag_of n)) there in
    let more = kinds-more chart c.loop-path.kinds c.push.new.self c.kind_of.result i c.loop-path.invariant.size c.loop-path.invariant.each kind c.in_ok-push.ensures.ok in
    record { size = more.size; each = more.each }
