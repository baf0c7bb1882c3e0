use Rattle.std.proofs.Common.{◌≡◌, inl, inr, ◌+◌, ◌-◌, ◌∷◌, [], suc, true, false, cond, Some, ap, sym, refl, arith, ◌∙◌}
use Rattle.std.specs.List.{list_any}
use Rattle.std.specs.Option.{option_map_or}
use Rattle.sc_base.specs.Ascending.{contains}
use Rattle.sc_base.specs.Folds.{each}
use Rattle.sc_bits.specs.Rows.{RowOf}
use Rattle.sc_types.specs.declared.state_kind.StateKind.{StateKind}
use Rattle.sc_types.specs.declared.state_kind.StateKind.TheVariants as kind
use Rattle.sc_law.specs.Entry.{EntryTriple, added, by_default, down, is_begun, recall, region, regions}
use Rattle.sc_law.specs.Kinds.{kind_of}
use Rattle.sc_law.specs.Sets.{value_of_history}
use Rattle.sc_law.specs.Tree.{ancestors, is_below, state_count}
use Rattle.sc_tables.specs.Rows.{below}
use Rattle.sc_sets.specs.Steps.{passed}
use Rattle.sc_sets.specs.Triples.{Becomes, triple_of}
use Rattle.sc_sets.proofs.BelowSets.{any_same, row_says}
use Rattle.sc_sets.proofs.Downward.{added_is, down_atomic, down_compound, down_final, down_history, down_none, down_parallel, step_ok}
use Rattle.sc_sets.proofs.Members.{all_from, from_on, next_none, next_some}
use Rattle.sc_sets.proofs.Steps.{each_passed}
use Rattle.sc_sets.proofs.entering.Entering.+enter.Goals as goal

pub down-returns-then-levels-eq0 : goal.down-returns-then-levels-eq0
down-returns-then-levels-eq0 t c = record {
  rows = c.requires.width;
  triple = down_none c.args.self.now.tables.now c.args.self.now.histories.now c.args.self.now.bound c.args.levels c.args.s (triple_of c.args.e.now) c.if-levels-eq0.true;
}

pub down-returns-in-Shallow : goal.down-returns-in-Shallow
down-returns-in-Shallow t c =
    let k = c.args.self.now.tables.now in
    let h = c.args.self.now.histories.now in
    let b = c.args.self.now.bound in
    let s = c.args.s in
    let e = triple_of c.args.e.now in
    let n = c.args.levels - 1 in
    let some : c.args.levels ≡ suc n = omega (arith, c.if-levels-eq0.false) in
    let step : recall k b (down k h b n) s (value_of_history h s) e ≡ down k h b c.args.levels s e = elim c.in-Shallow.is [
      | inl i ↦ down_history k h b n c.args.levels s e kind.Shallow some (ap (λ (x : StateKind). Some x) (sym i) ∙ c.kind.ensures) refl
      | inr i ↦ down_history k h b n c.args.levels s e kind.Deep some (ap (λ (x : StateKind). Some x) (sym i) ∙ c.kind.ensures) refl
    ] in
    step_ok c.recall.result _ _ _ c.args.e.now c.args.e.now c.recall.new.e c.recall.ensures step

pub down-returns-in-Compound : goal.down-returns-in-Compound
down-returns-in-Compound t c =
    let k = c.args.self.now.tables.now in
    let e = c.args.e.now in
    let n = c.args.levels - 1 in
    let some : c.args.levels ≡ suc n = omega (arith, c.if-levels-eq0.false) in
    let is : Some kind.Compound ≡ kind_of k c.args.s = ap (λ (x : StateKind). Some x) (sym c.in-Compound.is) ∙ c.kind.ensures in
    step_ok c.by_default.result _ _ _ e _ c.by_default.new.e c.by_default.ensures
    (ap (by_default k (down k c.args.self.now.histories.now c.args.self.now.bound n) c.args.s) (added_is c.add.new.self e c.args.s c.add.ensures)
    ∙ down_compound k c.args.self.now.histories.now c.args.self.now.bound n c.args.levels c.args.s (triple_of e) some is)

pub down-returns-in-Parallel : goal.down-returns-in-Parallel
down-returns-in-Parallel t c =
    let k = c.args.self.now.tables.now in
    let e = c.args.e.now in
    let n = c.args.levels - 1 in
    let some : c.args.levels ≡ suc n = omega (arith, c.if-levels-eq0.false) in
    let is : Some kind.Parallel ≡ kind_of k c.args.s = ap (λ (x : StateKind). Some x) (sym c.in-Parallel.is) ∙ c.kind.ensures in
    step_ok c.regions.result _ _ _ e _ c.regions.new.e c.regions.ensures
    (ap (regions k (down k c.args.self.now.histories.now c.args.self.now.bound n) c.args.s) (added_is c.add-in-Parallel.new.self e c.args.s c.add-in-Parallel.ensures)
    ∙ down_parallel k c.args.self.now.histories.now c.args.self.now.bound n c.args.levels c.args.s (triple_of e) some is)

pub down-returns-in-Atomic : goal.down-returns-in-Atomic
down-returns-in-Atomic t c =
    let k = c.args.self.now.tables.now in
    let h = c.args.self.now.histories.now in
    let e = c.args.e.now in
    let s = c.args.s in
    let n = c.args.levels - 1 in
    let some : c.args.levels ≡ suc n = omega (arith, c.if-levels-eq0.false) in
    let step : added s (triple_of e) ≡ down k h c.args.self.now.bound c.args.levels s (triple_of e) = elim c.in-Atomic.is [
      | inl i ↦ down_atomic k h c.args.self.now.bound n c.args.levels s (triple_of e) some (ap (λ (x : StateKind). Some x) (sym i) ∙ c.kind.ensures)
      | inr i ↦ down_final k h c.args.self.now.bound n c.args.levels s (triple_of e) some (ap (λ (x : StateKind). Some x) (sym i) ∙ c.kind.ensures)
    ] in
    record {
      rows = record {
        states = ap (λ (r : RowOf). r.width) c.add-in-Atomic.ensures ∙ c.requires.width.states;
        defaults = c.requires.width.defaults;
      };
      triple = added_is c.add-in-Atomic.new.self e s c.add-in-Atomic.ensures ∙ step;
    }

pub region-returns-then-meets : goal.region-returns-then-meets
region-returns-then-meets t c =
    let k = c.args.self.now.tables.now in
    let e = triple_of c.args.e.now in
    let begun : is_begun k e c.args.s ≡ true =
    sym (any_same (contains (below k c.args.s)) (λ m. is_below k m c.args.s) (λ m. row_says k m c.args.s) c.args.e.now.states.members)
    ∙ ap (λ (r : RowOf). list_any (λ m. contains r.members m) c.args.e.now.states.members) (sym c.below.ensures)
    ∙ sym c.meets.ensures ∙ c.if-meets.true in
    record {
      rows = c.requires.width;
      triple = ap (λ v. cond v (λ (same : EntryTriple). same) (down k c.args.self.now.histories.now c.args.self.now.bound c.args.levels c.args.s) e) (sym begun);
    }

pub region-returns : goal.region-returns
region-returns t c =
    let k = c.args.self.now.tables.now in
    let e = triple_of c.args.e.now in
    let begun : is_begun k e c.args.s ≡ false =
    sym (any_same (contains (below k c.args.s)) (λ m. is_below k m c.args.s) (λ m. row_says k m c.args.s) c.args.e.now.states.members)
    ∙ ap (λ (r : RowOf). list_any (λ m. contains r.members m) c.args.e.now.states.members) (sym c.below.ensures)
    ∙ sym c.meets.ensures ∙ c.if-meets.false in
    step_ok c.down.result _ _ _ c.args.e.now c.args.e.now c.down.new.e c.down.ensures
    (ap (λ v. cond v (λ (same : EntryTriple). same) (down k c.args.self.now.histories.now c.args.self.now.bound c.args.levels c.args.s) e) (sym begun))

pub regions-loop-child-init : goal.regions-loop-child-init
regions-loop-child-init t c = record {
  rows = c.requires.width;
  rest = ap (λ ms. each (region c.args.self.now.tables.now (down c.args.self.now.tables.now c.args.self.now.histories.now c.args.self.now.bound c.args.levels)) ms (triple_of c.args.e.now))
      (all_from c.children-children.result.now.members);
}

pub regions-loop-child-preserved : goal.regions-loop-child-preserved
regions-loop-child-preserved t c =
    let step = region c.args.self.now.tables.now (down c.args.self.now.tables.now c.args.self.now.histories.now c.args.self.now.bound c.args.levels) in
    let ms = c.children-children.result.now.members in
    let here : from_on c.loop-child.from ms ≡ c.in-Some.child ∷ from_on (c.in-Some.child + 1) ms =
    next_some 0 c.children-children.result.now.width c.loop-child.from c.in-Some.child ms c.in-Some.ensures.form c.in-Some.ensures.value c.in-Some.ensures.within.0 in
    let made : Becomes (state_count c.args.self.now.tables.now) (step c.in-Some.child) c.loop-child.e c.region.new.e = c.in_ok-region.ensures in
    record {
      rows = made.rows;
      rest = ap (each step (from_on (c.in-Some.child + 1) ms)) made.triple
          ∙ ap (λ xs. each step xs (triple_of c.loop-child.e)) (sym here) ∙ c.loop-child.invariant.rest;
    }

pub regions-returns : goal.regions-returns
regions-returns t c =
    let step = region c.args.self.now.tables.now (down c.args.self.now.tables.now c.args.self.now.histories.now c.args.self.now.bound c.args.levels) in
    let ms = c.children-children.result.now.members in
    let none : from_on c.loop-child.from ms ≡ [] = next_none c.loop-child.from ms c.in_default.ensures.value in
    record {
      rows = c.loop-child.invariant.rows;
      triple = ap (λ xs. each step xs (triple_of c.loop-child.e)) (sym none) ∙ c.loop-child.invariant.rest
          ∙ ap (λ (r : RowOf). each step r.members (triple_of c.args.e.now)) c.children-children.ensures;
    }

pub up-returns : goal.up-returns
up-returns t c =
    let k = c.args.self.now.tables.now in
    let F = down k c.args.self.now.histories.now c.args.self.now.bound c.args.levels in
    record {
      rows = c.loop-next.invariant.rows;
      triple = ap (λ o. each (passed k F c.args.limit) (option_map_or (λ p. p ∷ ancestors k p) o []) (triple_of c.loop-next.e)) (sym c.in_default.is)
          ∙ c.loop-next.invariant.rest ∙ sym (each_passed k F c.args.limit (ancestors k c.args.s) (triple_of c.args.e.now));
    }
