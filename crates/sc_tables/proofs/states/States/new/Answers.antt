use Rattle.std.proofs.Common.{◌≡◌, ◌+◌, length, map, ap, arith, ◌∙◌, rules}
use Rattle.std.specs.List.{range_with_len}
use Rattle.sc_law.specs.Tree.{state_count, state_paths}
use Rattle.sc_law.specs.Configurations.{children}
use Rattle.sc_tables.specs.Blocks.{AreBelowRoot}
use Rattle.sc_tables.specs.Built.{below_of, children_of}
use Rattle.sc_tables.specs.Rows.{below, row_of}
use Rattle.sc_tables.proofs.LookUps.{below-is, below_root, children-is}
use Rattle.sc_tables.proofs.Placed.{states_ordered}
use Rattle.sc_tables.proofs.RangeRows.{map-same}
use Rattle.sc_tables.proofs.states.States.new.Goals as goal

pub parents-requires-clause-order : goal.parents-requires-clause-order
parents-requires-clause-order c =
    let same : c.slice.result.now ≡ state_paths c.args.chart.now = search rules in
    rw same (states_ordered c.args.chart.now)

pub below_rows-requires-clause-order : goal.below_rows-requires-clause-order
below_rows-requires-clause-order c =
    let same : c.slice-3.result.now ≡ state_paths c.args.chart.now = search rules in
    rw same (states_ordered c.args.chart.now)

pub child_rows-requires-clause-order : goal.child_rows-requires-clause-order
child_rows-requires-clause-order c =
    let same : c.slice-4.result.now ≡ state_paths c.args.chart.now = search rules in
    rw same (states_ordered c.args.chart.now)

pub child_rows-requires-clause-below : goal.child_rows-requires-clause-below
child_rows-requires-clause-below c =
    let same : c.slice-4.result.now ≡ state_paths c.args.chart.now = search rules in
    let below : AreBelowRoot (state_paths c.args.chart.now) = below_root c.args.chart.now c.requires.root in
    rw same below

pub returns : goal.returns
returns c =
    let k = c.args.chart.now in
    let paths : c.in_ok-paths.paths ≡ state_paths k = search rules in
    let count : c.in_ok-count.count ≡ state_count k = c.in_ok-count.ensures.value ∙ c.len.ensures ∙ ap length paths in
    let below : c.in_ok-below.below ≡ map (λ s. row_of k (below k s)) (range_with_len 0 (state_count k)) =
    c.in_ok-below.ensures ∙ ap (λ ps. map (below_of ps) (range_with_len 0 c.in_ok-count.count)) (c.slice-3.ensures)
    ∙ map-same (below_of c.in_ok-paths.paths) (λ s. row_of k (below k s)) (λ s. below-is k c.in_ok-paths.paths s paths) (range_with_len 0 c.in_ok-count.count)
    ∙ ap (λ n. map (λ s. row_of k (below k s)) (range_with_len 0 n)) count in
    let children : c.in_ok-children.children ≡ map (λ s. row_of k (children k s)) (range_with_len 0 (state_count k + 1)) =
    c.in_ok-children.ensures ∙ ap (λ ps. map (children_of c.slice-5.result.now ps) (range_with_len 0 (c.in_ok-count.count + 1))) c.slice-4.ensures
    ∙ ap (λ ks. map (children_of ks c.in_ok-paths.paths) (range_with_len 0 (c.in_ok-count.count + 1))) c.slice-5.ensures
    ∙ map-same (children_of c.in_ok-kinds.kinds c.in_ok-paths.paths) (λ s. row_of k (children k s))
    (λ s. children-is k c.in_ok-kinds.kinds c.in_ok-paths.paths s paths c.in_ok-kinds.ensures) (range_with_len 0 (c.in_ok-count.count + 1))
    ∙ ap (λ n. map (λ s. row_of k (children k s)) (range_with_len 0 (n + 1))) count in
    let parents = rw c.slice.ensures at c.in_ok-parents.ensures in
    record {
      paths = paths;
      order = rw paths (states_ordered k);
      small = (let few = c.in_ok-count.ensures.small in omega (arith, few, c.len.ensures));
      parents = parents.0;
      all_parents = parents.1;
      kinds = c.in_ok-kinds.ensures;
      below = below;
      children = children;
    }
