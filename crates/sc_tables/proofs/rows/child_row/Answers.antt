use Rattle.std.proofs.Common.{◌≡◌, ◌&&◌, not, cond, false, [], ap, sym, refl, arith, ◌∙◌}
use Rattle.std.proofs.lemmas.List.{get_or_read_under}
use Rattle.sc_base.specs.Ascending.{with_number}
use Rattle.sc_bits.specs.Rows.{RowOf}
use Rattle.sc_law.specs.Nodes.{leads_on}
use Rattle.sc_tables.specs.Blocks.{is_child_path, is_history_in}
use Rattle.sc_tables.specs.Nearest.{path_at}
use Rattle.sc_tables.proofs.BlockRows.{no-child-yet, all-children-found, child-more, row-ends}
use Rattle.sc_tables.proofs.rows.child_row.Goals as goal

pub loop-state-init : goal.loop-state-init
loop-state-init c = record {
  width = ap (λ (r : RowOf). r.width) c.in_ok-row.ensures;
  members = ap (λ (r : RowOf). r.members) c.in_ok-row.ensures ∙ sym (no-child-yet _ c.args.paths.now c.args.from c.args.path.now c.requires.block);
}

pub returns-then-not-leads_on : goal.returns-then-not-leads_on
returns-then-not-leads_on c =
    let paths = c.args.paths.now in
    let s = c.loop-state.state in
    let here : c.slice-own.result.now ≡ path_at paths s =
    c.slice-own.ensures ∙ get_or_read_under paths s _ _ [] c.index-paths-state.is (omega (arith, c.requires.width)) refl in
    let fails : leads_on c.args.path.now (path_at paths s) ≡ false =
    ap (leads_on c.args.path.now) (sym here) ∙ sym c.leads_on.ensures ∙ c.if-not-leads_on.true in
    row-ends c.loop-state.row c.args.width _ c.loop-state.invariant.width
    (c.loop-state.invariant.members ∙ sym (all-children-found _ paths c.args.from s c.args.path.now c.requires.block c.loop-state.auto.state (omega (arith, c.requires.width)) fails))

pub loop-state-preserved : goal.loop-state-preserved
loop-state-preserved c =
    let paths = c.args.paths.now in
    let s = c.loop-state.state in
    let here : c.slice-own.result.now ≡ path_at paths s =
    c.slice-own.ensures ∙ get_or_read_under paths s _ _ [] c.index-paths-state.is (omega (arith, c.requires.width)) refl in
    let child : c.is_child.result ≡ (is_child_path c.args.path.now (path_at paths s) && not (is_history_in c.args.kinds.now s)) =
    c.is_child.ensures ∙ ap (λ p. is_child_path c.args.path.now p && not (is_history_in c.args.kinds.now s)) here in
    record {
      width = c.add_if.ensures.width ∙ c.loop-state.invariant.width;
      members = c.add_if.ensures.members ∙ ap (λ ms. cond c.is_child.result (with_number s ms) ms) c.loop-state.invariant.members
          ∙ child-more _ (is_child_path c.args.path.now) paths s _ _ c.is_child.result (omega (arith, c.requires.width)) refl refl child;
    }
