use Rattle.std.proofs.Common.{◌≡◌, ◌-◌, suc, Some, ap, sym, arith, ◌∙◌}
use Rattle.std.specs.List.{list_all}
use Rattle.sc_bits.specs.Rows.{RowOf}
use Rattle.sc_types.specs.declared.state_kind.StateKind.{StateKind}
use Rattle.sc_law.specs.Entering.{is_in_final}
use Rattle.sc_sets.proofs.Members.{all_from}
use Rattle.sc_micro.proofs.FinalLemmas.{all-end, all-here, all-next, done-compound, done-none, done-other, done-parallel, no-compound, no-parallel}
use Rattle.sc_micro.proofs.finals.+done.Goals as goal

pub are_in_final-loop-child-init : goal.are_in_final-loop-child-init
are_in_final-loop-child-init t c =
    ap (list_all (is_in_final c.args.t.now c.args.conf.now.members c.args.levels))
    (all_from c.children-children.result.now.members)

pub are_in_final-returns-then-not-is_in_final : goal.are_in_final-returns-then-not-is_in_final
are_in_final-returns-then-not-is_in_final t c =
    let test = is_in_final c.args.t.now c.args.conf.now.members c.args.levels in
    all-here test c.children-children.result.now.members c.children-children.result.now.width c.loop-child.from
    c.in-Some.child
    c.in-Some.ensures.form c.in-Some.ensures.value c.in-Some.ensures.within.0
    (sym c.is_in_final.ensures ∙ c.if-not-is_in_final.true)
    ∙ c.loop-child.invariant ∙ ap (λ (r : RowOf). list_all test r.members) c.children-children.ensures

pub are_in_final-loop-child-preserved : goal.are_in_final-loop-child-preserved
are_in_final-loop-child-preserved t c =
    let test = is_in_final c.args.t.now c.args.conf.now.members c.args.levels in
    all-next test c.children-children.result.now.members c.children-children.result.now.width c.loop-child.from
    c.in-Some.child
    c.in-Some.ensures.form c.in-Some.ensures.value c.in-Some.ensures.within.0
    (sym c.is_in_final.ensures ∙ c.if-not-is_in_final.false)
    ∙ c.loop-child.invariant

pub are_in_final-returns : goal.are_in_final-returns
are_in_final-returns t c =
    let test = is_in_final c.args.t.now c.args.conf.now.members c.args.levels in
    all-end test c.children-children.result.now.members c.loop-child.from c.in_default.ensures.value
    ∙ c.loop-child.invariant ∙ ap (λ (r : RowOf). list_all test r.members) c.children-children.ensures

pub is_in_final-returns-then-levels-eq0 : goal.is_in_final-returns-then-levels-eq0
is_in_final-returns-then-levels-eq0 t c = done-none c.args.t.now c.args.conf.now.members c.args.levels c.args.s
    c.if-levels-eq0.true

pub is_in_final-returns-in-Compound : goal.is_in_final-returns-in-Compound
is_in_final-returns-in-Compound t c =
    let some : c.args.levels ≡ suc (c.args.levels - 1) = omega (arith, c.if-levels-eq0.false) in
    c.has_final.ensures
    ∙ done-compound c.args.t.now c.args.conf.now.members (c.args.levels - 1) c.args.levels c.args.s some
    (ap (λ (x : StateKind). Some x) (sym c.in-Compound.is) ∙ c.kind.ensures)

pub is_in_final-returns-in-Parallel : goal.is_in_final-returns-in-Parallel
is_in_final-returns-in-Parallel t c =
    let some : c.args.levels ≡ suc (c.args.levels - 1) = omega (arith, c.if-levels-eq0.false) in
    c.are_in_final.ensures
    ∙ done-parallel c.args.t.now c.args.conf.now.members (c.args.levels - 1) c.args.levels c.args.s some
    (ap (λ (x : StateKind). Some x) (sym c.in-Parallel.is) ∙ c.kind.ensures)

pub is_in_final-returns-in_default : goal.is_in_final-returns-in_default
is_in_final-returns-in_default t c =
    let some : c.args.levels ≡ suc (c.args.levels - 1) = omega (arith, c.if-levels-eq0.false) in
    done-other c.args.t.now c.args.conf.now.members
    (c.args.levels - 1) c.args.levels c.args.s c.kind.result some c.kind.ensures
    (no-compound c.kind.result c.in_default.not-Compound) (no-parallel c.kind.result c.in_default.not-Parallel)
