use Rattle.std.proofs.Common.{◌≡◌, ◌+◌, ℕ, [], List, slice_get, unwrap_or, ap, sym, arith, ◌∙◌}
use Rattle.sc_bits.specs.Rows.{RowOf}
use Rattle.sc_types.specs.declared.chart.Node.{Node}
use Rattle.sc_law.specs.Nodes.{Path, element, tag_of}
use Rattle.sc_law.specs.Tree.{path_of, state_count, state_element}
use Rattle.sc_law.specs.Configurations.{children, defaults, defaults_at}
use Rattle.sc_tables.specs.Rows.{row_of}
use Rattle.sc_tables.proofs.DefaultTargets.{if_gives}
use Rattle.sc_tables.proofs.RangeRows.{list-at, list-length}
use Rattle.sc_tables.proofs.defaults.defaults_of.Goals as goal

pub bounds-slice-state : goal.bounds-slice-state
bounds-slice-state c =
    let long = list-length _ _ _ (c.slice.ensures ∙ c.requires.states.children) in
    omega (arith, long, c.requires.within)

pub returns : goal.returns
returns c =
    let k = c.args.ids.now in
    let s = c.args.state in
    let row : c.index-slice-state.result ≡ row_of k (children k s) =
    list-at _ _ (state_count k + 1) s c.index-slice-state.result (c.slice.ensures ∙ c.requires.states.children) (omega (arith, c.requires.within)) c.index-slice-state.is in
    let path : c.path_of.result.now ≡ path_of k s = c.path_of.ensures ∙ ap (λ (ps : List Path). unwrap_or (slice_get ps s) []) c.requires.states.paths in
    let node : c.element-node.result.now ≡ state_element k s = c.element-node.ensures ∙ ap (λ n. element n c.path_of.result.now) c.chart.ensures ∙ ap (element k) path in
    if_gives _ (λ (ds : List ℕ). (t : ℕ) → children k t ≡ c.index-slice-state.result.members → ds ≡ defaults_at k t c.element-node.result.now (tag_of c.element-node.result.now))
    (λ (ds : List ℕ). ds ≡ defaults k s) c.defaults_at.ensures (λ ds h. h s (sym (ap (λ (r : RowOf). r.members) row)) ∙ ap (λ (n : Node). defaults_at k s n (tag_of n)) node)
