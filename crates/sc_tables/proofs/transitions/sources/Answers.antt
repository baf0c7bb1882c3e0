use Rattle.std.proofs.Common.{◌≡◌, ◌+◌, ℕ, List, [], ◌∷◌, ◌++◌, cond, filter, length, take, ap, ap₂, subst, sym, refl, arith, ◌∙◌}
use Rattle.std.proofs.lemmas.List.{get_or_read_under}
use Rattle.std.proofs.lemmas.List.Elements.{filter_more}
use Rattle.std.proofs.lemmas.List.Filters.{length-filter_more}
use Rattle.sc_types.specs.Elements.{is_numbered}
use Rattle.sc_types.specs.declared.chart.Node.{Node}
use Rattle.sc_law.specs.Legality.{is_transition}
use Rattle.sc_law.specs.Nodes.{Path, element, elements, tag_of}
use Rattle.sc_tables.specs.Built.{AddsSource, AreSources}
use Rattle.sc_tables.specs.Nearest.{path_at}
use Rattle.sc_tables.proofs.Placed.{is_state_path, placed_if, states_before_le}
use Rattle.sc_tables.proofs.transitions.sources.Goals as goal

pub add_source-requires-clause-within : goal.add_source-requires-clause-within
add_source-requires-clause-within c =
    let k = c.args.chart.now in
    let i = c.loop-path.path-index in
    let count : c.loop-path.before ≡ length (filter (is_state_path k) (take i (elements k))) =
    c.loop-path.invariant.states ∙ ap (λ es. length (filter (is_state_path k) (take i es))) c.requires.all in
    let most = states_before_le k i c.args.states.now.paths c.requires.states.paths in
    omega (arith, count, most, c.requires.states.all_parents)

pub add_source-requires-clause-placed : goal.add_source-requires-clause-placed
add_source-requires-clause-placed c =
    let k = c.args.chart.now in
    let i = c.loop-path.path-index in
    let count : c.loop-path.before ≡ length (filter (is_state_path k) (take i (elements k))) =
    c.loop-path.invariant.states ∙ ap (λ es. length (filter (is_state_path k) (take i es))) c.requires.all in
    let here : c.slice.result.now ≡ path_at (elements k) i =
    c.slice.ensures ∙ get_or_read_under c.args.all.now i _ _ [] c.path-item.is c.loop-path-test.true refl ∙ ap (λ es. path_at es i) c.requires.all in
    let long = ap length c.requires.all in
    rw count (placed_if k i c.args.states.now.paths c.slice.result.now (omega (arith, long, c.loop-path-test.true)) c.requires.states.paths here)

pub loop-path-preserved : goal.loop-path-preserved
loop-path-preserved c =
    let k = c.args.chart.now in
    let i = c.loop-path.path-index in
    let all = c.args.all.now in
    let here : c.slice.result.now ≡ path_at all i =
    c.slice.ensures ∙ get_or_read_under all i _ _ [] c.path-item.is c.loop-path-test.true refl in
    let added : AddsSource c.args.states.now.paths (is_transition k c.slice.result.now) c.slice.result.now c.loop-path.sources c.add_source.new.sources =
    c.in_ok-add_source.ensures in
    record {
      within = omega (arith, c.count_of-before.ensures.most, c.loop-path.invariant.within);
      states =
          ap₂ (λ (m n : ℕ). m + n) c.loop-path.invariant.states
          (c.count_of-before.ensures.value ∙ ap (λ (n : Node). cond (is_numbered (tag_of n)) 1 0)
          (c.element.ensures ∙ ap (element k) (c.slice-in-loop-path.ensures ∙ sym c.slice.ensures ∙ here)))
          ∙ sym (length-filter_more (is_state_path k) all i [] c.loop-path-test.true);
      sources =
          subst (λ (ts : List Path). AreSources c.args.states.now.paths ts c.add_source.new.sources)
          (ap (λ (q : Path). filter (is_transition k) (take i all) ++ cond (is_transition k q) (q ∷ []) []) here
          ∙ sym (filter_more (is_transition k) all i [] c.loop-path-test.true))
          (added.follows (filter (is_transition k) (take i all)) c.loop-path.invariant.sources);
    }
