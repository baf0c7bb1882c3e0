use Rattle.std.proofs.Common.{◌≡◌, ◌+◌, ◌++◌, drop, ap, sym, ◌∙◌}
use Rattle.std.proofs.lemmas.List.{drop_more}
use Rattle.sc_base.specs.Folds.{each}
use Rattle.sc_law.specs.Entry.{enters, up}
use Rattle.sc_law.specs.Sets.{effective_targets}
use Rattle.sc_law.specs.Tree.{state_count}
use Rattle.sc_sets.specs.Triples.{Becomes, triple_of}
use Rattle.sc_sets.proofs.Steps.{each_append}
use Rattle.sc_sets.proofs.enter.enter_targets.Goals as goal

pub loop-place-preserved : goal.loop-place-preserved
loop-place-preserved c =
    let k = c.args.t.now in
    let h = c.args.h.now in
    let ts = c.args.targets.now in
    let i = c.loop-place.place in
    let step = up k (enters k h c.args.domain) c.args.domain in
    let states = c.stands_for-states.result.now in
    let rest = effective_targets k h (drop (i + 1) ts) in
    let made : Becomes (state_count k) (each step states) c.loop-place.e c.up_each.new.e =
    rw (
      c.count-in-loop-place.ensures,
      c.new-entering.ensures.tables,
      c.new-entering.ensures.histories,
      c.new-entering.ensures.bound,
    ) at c.in_ok-up_each.ensures in
    let these : states ++ rest ≡ effective_targets k h (drop i ts) =
    ap (λ xs. xs ++ rest) c.stands_for-states.ensures.value
    ∙ sym (ap (effective_targets k h) (drop_more ts i 0 c.loop-place-test.true)) in
    record {
      rows = made.rows;
      rest = ap (each step rest) made.triple ∙ sym (each_append step states rest (triple_of c.loop-place.e))
          ∙ ap (λ xs. each step xs (triple_of c.loop-place.e)) these ∙ c.loop-place.invariant.rest;
    }
